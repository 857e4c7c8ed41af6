-- The ways through what gives a table or classes.
use Rattle.std.specs.Prelude.{if◌then◌else◌, Err, Ok, Result}
use mathlib.Core.Path.{◌≡◌, sym, ◌∙◌}
use mathlib.Core.Bool.{Bool, true, false}
use mathlib.Core.List.{List}
use Prim.Native.Nat.{ℕ, ◌+◌, min}
use native.Mathlib.Omega.{arith}
use lib.Dec.{ltb}
use lib.ListN.{length}
use lib.Seq.{paste, take-length}
use Rattle.c_answers.specs.Answers.{short_number}
use Rattle.code.specs.declared.Refusal.{Refusal}
use Rattle.code.specs.Definitions.Answers.{refusal_number}
use Rattle.code.specs.Definitions.Operations.{written}
use Rattle.c_results.specs.Given.{Answered}

module _ {a : Result Unit Refusal} {n : ℕ} {bytes b : List ℕ} {s : Bool} (short : s ≡ ltb (length b) n) where
  pub given_short : {k : ℕ} → a ≡ Ok tt → s ≡ true → k ≡ short_number → Answered a n bytes b b k
  given_short d h k = let l = sym short ∙ h in record { number = rw (d, l) k; buffer = rw (d, l) }

  pub given_written : {b' : List ℕ} → a ≡ Ok tt → s ≡ false → b' ≡ written bytes b → Answered a n bytes b b' 0
  given_written d h k = let l = sym short ∙ h in record { number = rw (d, l); buffer = rw (d, l) k }

  pub given_refused : {r : Refusal} {m : ℕ} → a ≡ Err r → m ≡ (if s then min (refusal_number r) short_number else refusal_number r) → Answered a n bytes b b m
  given_refused d h = record { number = rw (d, ← short) h; buffer = rw d }

-- Bytes copied to the start of a buffer
pub front_pasted : (b s : List ℕ) (n : ℕ) {b' : List ℕ} → length s ≡ n → b' ≡ paste b 0 s n → b' ≡ written s b
front_pasted b s n e p = let none : 0 + n ≡ n = omega arith in p ∙ rw (none, ← e, take-length s)
