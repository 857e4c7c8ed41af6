-- A list of marks laid over the first numbers of another, one after the other.
use mathlib.Core.Path.{◌≡◌, refl, ap}
use mathlib.Core.List.{List, ◌++◌}
use Prim.Native.Nat.{ℕ, ◌+◌, ◌≤◌, ◌<◌}
use native.Mathlib.Omega.{arith}
use lib.ListN.{length, get_or, set, drop}
use Rattle.code.specs.Definitions.Lists.{tabulate}
use Rattle.code.specs.Definitions.Operations.{written}
use Rattle.code.specs.Laws.Filling.{fill_next}
use Rattle.code.specs.Laws.Lists.{tabulate_list}

module _ (s w : List ℕ) where
  abbrev mark : ℕ → ℕ
  mark k = get_or s k 0

  -- The first i of the marks are laid.
  abbrev pub laid : ℕ → List ℕ
  laid i = tabulate mark i ++ drop i w

  pub laid_none : w ≡ laid 0
  unfolding tabulate
  laid_none = refl

  pub laid_more : (i : ℕ) → i < length w → set (laid i) i (get_or s i 0) ≡ laid (i + 1)
  laid_more i l = fill_next mark w i l

  all_marks : tabulate mark (length s) ≡ s
  all_marks = tabulate_list mark (length s) s 0 refl (λ k h. refl)

  pub laid_all : {i : ℕ} → i ≤ length s → length s ≤ i → laid i ≡ written s w
  laid_all {i} h l = let e : i ≡ length s = omega arith in rw e (ap (λ (m : List ℕ). m ++ drop (length s) w) all_marks)
