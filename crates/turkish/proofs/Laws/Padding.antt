-- An array filled from its front with the entries of a list: nothing stored yet, one entry more, all of them.
use mathlib.Core.Path.{◌≡◌, refl, sym, ap, ◌∙◌}
use mathlib.Core.List.{List, ◌++◌}
use Prim.Native.Nat.{ℕ, ◌+◌, ◌≤◌, ◌<◌}
use native.Mathlib.Omega.{arith}
use lib.ListN.{length, drop, get_or, set, replicate, length-set, length-replicate, get_or-eq_default}
use Rattle.code.specs.Definitions.Lists.{tabulate}
use Rattle.code.specs.Laws.Filling.{fill_next, fill_end}
use Rattle.code.specs.Laws.Lists.{list_tabulate}
use Rattle.turkish.specs.Types.{padded}

-- The first i entries of the array a, n entries long, are those of the list l; the others are still d.
pub record Padding {A : Type 0} (d : A) (l : List A) (n i : ℕ) (a : List A) : Type 0 where
  pub array : length a ≡ n
  pub entries : a ≡ tabulate (λ k. get_or l k d) i ++ drop i (replicate n d)

module _ {A : Type 0} {d : A} {l : List A} {n : ℕ} where
  pub padding_none : {a : List A} → a ≡ replicate n d → Padding d l n 0 a
  unfolding tabulate
  padding_none e = record { array = ap length e ∙ length-replicate n d; entries = e }

  pub padding_next : {i : ℕ} {a : List A} {v : A} → i < n → v ≡ get_or l i d → Padding d l n i a → Padding d l n (i + 1) (set a i v)
  padding_next {i} h e p = record {
    array = simp length-set p.array;
    entries = rw (p.entries, e) (fill_next (λ k. get_or l k d) (replicate n d) i (omega (arith, length-replicate n d)));
  }

  pub padding_all : {i : ℕ} {a : List A} → length l ≤ i → i ≤ n → Padding d l n i a → a ≡ padded d l n
  unfolding padded
  padding_all {i} h m p = p.entries ∙ fill_end (λ k. get_or l k d) d i n (λ k j. get_or-eq_default l d {n = k} (omega arith)) m

-- the list itself in front of what is left
pub padding_front : {A : Type 0} (d : A) (l : List A) (n : ℕ) → length l ≤ n → l ++ drop (length l) (replicate n d) ≡ padded d l n
unfolding padded
padding_front {A} d l n h =
    ap (λ (f : List A). f ++ drop (length l) (replicate n d)) (sym (list_tabulate (λ k. get_or l k d) l d (λ k i. refl)))
    ∙ fill_end (λ k. get_or l k d) d (length l) n (λ k j. get_or-eq_default l d {n = k} j) h
