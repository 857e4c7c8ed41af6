-- Whether some word may not begin: where none is found every word may.
use Rattle.std.specs.Prelude.{◌≡◌, refl, Bool, true, false, not, List, ℕ, ◌<◌}
use Rattle.std.proofs.Common.{◌∙◌, arith}
use Rattle.std.proofs.lemmas.Bool.{false≢true}
use Rattle.code.specs.Laws.Below.{some_below, some_in}
use Rattle.pair_places.specs.Flat.{word_count, at_start, may_come}

-- Every word below n may begin.
abbrev pub BeginBelow : List ℕ → ℕ → Type 0
BeginBelow f n = (x : ℕ) → x < n → may_come f x at_start ≡ true

-- r is 1, or every word may begin.
abbrev pub Opens : List ℕ → ℕ → Type 0
Opens f r = (r ≡ 1 → ⊥) → BeginBelow f (word_count f)

-- So it is where r is 1 for a word that may not begin.
pub opens_byte : (f : List ℕ) {n r : ℕ} {b : Bool} → n ≡ word_count f → b ≡ some_below (λ x. not (may_come f x at_start)) n → (b ≡ true → r ≡ 1) → Opens f r
opens_byte f {n} {b = true} k e d z = absurd (z (d refl))
opens_byte f {n} {b = false} k e d z = λ x h. begins x (omega arith) (may_come f x at_start) refl
  where
    begins : (x : ℕ) → x < n → (v : Bool) → may_come f x at_start ≡ v → may_come f x at_start ≡ true
    begins x h true m = m
    begins x h false m = absurd (false≢true (e ∙ some_in (λ y. not (may_come f y at_start)) n x h (rw m)))
