-- `bits::has` meets its contract: what the mask leaves of the set, shifted down, is the remainder of the definition.
use mathlib.Core.Path.{ap}
use Prim.Native.Nat.{ℕ, ◌/◌, ◌^◌}
use lib.Bits.{and_mask}
use lib.Dec.{eqb}
use Rattle.bits.specs.Bits.{bit_of}
use Rattle.bits.proofs.has.Goals as goal

pub returns : goal.returns
unfolding bit_of
returns c = ap (λ (digit : ℕ). eqb digit 1) (and_mask (c.args.set / 2 ^ c.args.x) 1)
