-- Three texts put one after another, with room for all.
use mathlib.Core.List.{List, ◌++◌}
use Prim.Native.Nat.{ℕ, ◌+◌, ◌≤◌}
use native.Mathlib.Omega.{arith}
use lib.ListN.{length, length-append}
use Rattle.writing.specs.Puts.{Puts, puts_then, puts_length}

module _ (x y z : List ℕ) {at : ℕ} {o : List ℕ} (room : at + length (x ++ y ++ z) ≤ length o) where
  module _ {k : ℕ} {p : List ℕ} (first : Puts at x o p k) where
    pub second_fits : k + length y ≤ length p
    second_fits = omega (arith, length-append (x ++ y) z, length-append x y, first.end, puts_length first)

    module _ {l : ℕ} {q : List ℕ} (second : Puts k y p q l) where
      pub third_fits : l + length z ≤ length q
      third_fits = omega (arith, length-append (x ++ y) z, length-append x y, first.end, puts_length first, second.end, puts_length second)

      pub three_put : {r : ℕ} {e : List ℕ} → Puts l z q e r → Puts at (x ++ y ++ z) o e r
      three_put third = puts_then (puts_then first second) third
