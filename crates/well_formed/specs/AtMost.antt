-- An array is held to an array of greatest values, with one number in all cells in use and zero in the others: how such an array is filled, and that no cell is
-- above the same cell there exactly where the array fits.
use Rattle.std.specs.Prelude.{◌≡◌, refl, List, ◌↔◌, ℕ, ◌+◌, ◌-◌, ◌≤◌, ◌<◌, max, ltb, length, get_or, replicate, if◌then◌else◌}
use Rattle.std.proofs.Common.{sym, ap, ◌∙◌, arith, below_none, below_more, lt-ltb, le-ltb}
use Rattle.std.proofs.Math.Decide.{dec_lt}
use Rattle.std.proofs.lemmas.List.{length-replicate, get_or-replicate}
use Rattle.std.proofs.Math.ListN.{get_or-eq_default}
use Rattle.code.specs.declared.Limits.{Limits}
use Rattle.code.specs.Definitions.Lists.{tabulate}
use Rattle.code.specs.Laws.Lists.{get_d_tabulate, tabulate_same}
use Rattle.code.specs.Laws.WellFormed.{CellsFit}

module _ (a m : List ℕ) where
  abbrev pub Under : ℕ → Type 0
  Under p = get_or a p 0 ≤ get_or m p 0

  abbrev pub AtMost : Type 0
  AtMost = (p : ℕ) → p < length a → Under p

  -- The greatest excess of the first p cells is 0 exactly where none of them is above its greatest value.
  abbrev pub NoExcess : ℕ → ℕ → Type 0
  NoExcess p over = (over ≡ 0) ↔ ((i : ℕ) → i < p → Under i)

  pub excess_none : NoExcess 0 0
  excess_none = ((λ e. below_none Under), (λ all. refl))

  pub excess_more : (p over : ℕ) → NoExcess p over → NoExcess (p + 1) (max (get_or a p 0 - get_or m p 0) over)
  excess_more p over before = (
    (λ e. below_more Under p (before.0 (omega arith)) (omega arith)),
    (λ all. omega (arith, all p (omega arith), before.1 (λ i h. all i (omega arith)))),
  )

-- The list with v in its first n cells.
module _ (v n : ℕ) (d : List ℕ) where
  abbrev pub filled_at : ℕ → ℕ
  filled_at p = if ltb p n then v else get_or d p 0

  abbrev pub filled : List ℕ
  filled = tabulate filled_at (length d)

  used : (p : ℕ) → p < n → filled_at p ≡ v
  used p h = rw (lt-ltb p n h)

  unused : (p : ℕ) → n ≤ p → filled_at p ≡ get_or d p 0
  unused p h = rw (le-ltb p n h)

-- Greatest values: v in the first n cells, and zeros.
abbrev pub greatest : ℕ → ℕ → ℕ → List ℕ
greatest v n size = filled v n (replicate size 0)

-- They are made cell by cell.
pub greatest_cells : (v n size : ℕ) → tabulate (λ p. if ltb p n then v else 0) size ≡ greatest v n size
greatest_cells v n size =
    rw (length-replicate {A = ℕ} size 0)
    (tabulate_same _ (filled_at v n (replicate size 0)) size (λ p h. ap (λ (w : ℕ). if ltb p n then v else w) (sym (get_or-replicate size p 0 0 h))))

module _ (v n size : ℕ) (a : List ℕ) (array : length a ≡ size) where
  cell : (p : ℕ) → p < length a → get_or (greatest v n size) p 0 ≡ filled_at v n (replicate size 0) p
  cell p h = get_d_tabulate (filled_at v n (replicate size 0)) (length (replicate size 0)) p 0 (omega (arith, length-replicate {A = ℕ} size 0))

  cell_used : (p : ℕ) → p < length a → p < n → get_or (greatest v n size) p 0 ≡ v
  cell_used p h i = cell p h ∙ used v n (replicate size 0) p i

  cell_unused : (p : ℕ) → p < length a → n ≤ p → get_or (greatest v n size) p 0 ≡ 0
  cell_unused p h i = cell p h ∙ unused v n (replicate size 0) p i ∙ get_or-replicate size p 0 0 (omega arith)

  past : (p : ℕ) → length a ≤ p → get_or a p 0 ≡ 0
  past p h = get_or-eq_default a 0 h

  low : AtMost a (greatest v n size) → (p : ℕ) → Dec (p < length a) → Dec (p < n) → get_or a p 0 < v + 1
  low all p (yes h) (yes i) = omega (arith, all p h, cell_used p h i)
  low all p (yes h) (no i) = omega (arith, all p h, cell_unused p h (omega arith))
  low all p (no h) i = omega (arith, past p (omega arith))

  none : AtMost a (greatest v n size) → (p : ℕ) → n ≤ p → Dec (p < length a) → get_or a p 0 ≡ 0
  none all p i (yes h) = omega (arith, all p h, cell_unused p h i)
  none all p i (no h) = past p (omega arith)

  under : CellsFit (v + 1) n a → (p : ℕ) → p < length a → Dec (p < n) → Under a (greatest v n size) p
  under f p h (yes i) = omega (arith, f.below p, cell_used p h i)
  under f p h (no i) = omega (arith, f.zero p (omega arith))

  pub greatest_fit : AtMost a (greatest v n size) ↔ CellsFit (v + 1) n a
  greatest_fit = (
    (λ all. record { below = λ p. low all p (dec_lt p (length a)) (dec_lt p n); zero = λ p i. none all p i (dec_lt p (length a)) }),
    (λ f p h. under f p h (dec_lt p n)),
  )

-- The greatest entries of a row in use, and the greatest start marks, in a code of n words.
abbrev pub greatest_entries : Limits → ℕ → List ℕ
greatest_entries l n = greatest 1 n l.words

-- The greatest symbols of a word of n symbols, with the zeros behind them.
abbrev pub greatest_symbols : Limits → ℕ → List ℕ
greatest_symbols l n = greatest 15 n l.symbols
