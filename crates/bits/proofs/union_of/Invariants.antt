-- `bits::union_of` meets its contract. The loop's invariant: the sets of the members below `z` are joined, and `left` holds the members from `z` on. The
-- measure is `left`.
use Prim.Native.Nat.{◌/◌, ◌^◌}
use mathlib.Core.Path.{◌≡◌}
use Rattle.bits.specs.Unions.{UnionOf}
use Rattle.bits.proofs.union_of.Given as goal

abbrev pub invariant-loop-left : goal.invariant-loop-left
invariant-loop-left l = (l.left ≡ l.members / 2 ^ l.z) × UnionOf l.sets l.members l.z l.union

abbrev pub decreases-loop-left : goal.decreases-loop-left
decreases-loop-left l = l.left
