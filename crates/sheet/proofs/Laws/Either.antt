-- A sheet is accepted, or gets one refusal.
use Rattle.std.specs.Prelude.{Err, Ok, Result}
use mathlib.Core.Path.{◌≡◌}
use Prim.Native.Nat.{ℕ}
use native.Mathlib.Omega.{arith}
use Rattle.code.specs.declared.Refusal.{Refusal}

pub not_both : {a : Result Unit Refusal} {r : Refusal} → a ≡ Ok tt → a ≡ Err r → ⊥
not_both p q = let z : ◌≡◌ {A = ℕ} 0 1 = cc in omega arith

pub one_refusal : {a : Result Unit Refusal} {r i : Refusal} → a ≡ Err r → a ≡ Err i → r ≡ i
one_refusal p q = cc
