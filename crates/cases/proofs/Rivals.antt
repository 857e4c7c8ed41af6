-- The test for rivals passes exactly the rivals.
use Rattle.std.specs.Prelude.{◌≡◌, true, ◌&&◌, ◌||◌, ◌⊎◌, ◌↔◌, ℕ}
use Rattle.std.proofs.Math.Bool.{and-eq-true_iff}
use Rattle.std.proofs.Common.{inl, inr}
use Rattle.code.specs.Definitions.Tables.{Table, size}
use Rattle.code.specs.Laws.Below.{or_cases, or_left, or_right, some_below, some_in, some_out}
use Rattle.code.specs.Laws.Endings.{is_ending, ending_test, ending_word}
use Rattle.code.specs.Laws.Openings.{Rivals, rivals_begin, rivals_follow}
use Rattle.cases.specs.Rivals.{both_begin, both_follow, are_rivals}

module _ (t : Table) where
  rivals_out : (x y : ℕ) → (both_begin t x y ≡ true) ⊎ (some_below (both_follow t x y) (size t) ≡ true) → Rivals t x y
  rivals_out x y (inl e) = let a = (and-eq-true_iff (t.begins x) (t.begins y)).0 e in rivals_begin a.0 a.1
  rivals_out x y (inr e) =
      let s = some_out (both_follow t x y) (size t) e in
      let z = s.x in
      let a = (and-eq-true_iff (is_ending t z) (t.follow x z && t.follow y z)).0 s.passes in
      let b = (and-eq-true_iff (t.follow x z) (t.follow y z)).0 a.1 in
      rivals_follow ((ending_test t z).0 a.0) b.0 b.1

  rivals_in : {x y : ℕ} → Rivals t x y → (both_begin t x y || some_below (both_follow t x y) (size t)) ≡ true
  rivals_in {x} {y} (rivals_begin a b) =
      or_left (both_begin t x y) (some_below (both_follow t x y) (size t)) ((and-eq-true_iff (t.begins x) (t.begins y)).1 (a, b))
  rivals_in {x} {y} (rivals_follow {z} e a b) =
      let f = (and-eq-true_iff (t.follow x z) (t.follow y z)).1 (a, b) in
      let p = (and-eq-true_iff (is_ending t z) (t.follow x z && t.follow y z)).1 ((ending_test t z).1 e, f) in
      or_right (both_begin t x y) (some_below (both_follow t x y) (size t)) (some_in (both_follow t x y) (size t) z (ending_word e) p)

  -- The test passes exactly the rivals.
  pub rivals_test : (x y : ℕ) → (are_rivals t x y ≡ true) ↔ Rivals t x y
  unfolding are_rivals
  rivals_test x y = (λ e. rivals_out x y (or_cases (both_begin t x y) (some_below (both_follow t x y) (size t)) e), λ r. rivals_in r)
