-- A test of B7 and of the four brackets, by std's word for `any`.
use mathlib.Core.Path.{◌≡◌, refl}
use mathlib.Core.Bool.{Bool}
use Prim.Native.Nat.{ℕ}
use Rattle.std.specs.List.{list_any}
use Rattle.code.specs.Definitions.Lists.{any}
use Rattle.code.specs.Definitions.Texts.{signs}

pub signs_tested : (p : ℕ → Bool) → list_any p signs ≡ any p signs
unfolding any
signs_tested p = refl
