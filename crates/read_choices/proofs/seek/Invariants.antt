-- `read_choices::seek` meets its contract. The loop's invariant: no word from `from` up to `x` is usable, and `left` holds the marks from `x` on. The measure is
-- `left`.
use Prim.Native.Nat.{◌/◌, ◌^◌, ◌≤◌}
use lib.ListN.{get_or}
use mathlib.Core.Path.{◌≡◌}
use Rattle.read_choices.specs.Choices.{NoneUsable}
use Rattle.read_choices.proofs.seek.Given as goal

abbrev pub invariant-loop-left : goal.invariant-loop-left
invariant-loop-left l = (l.from ≤ l.x) × (l.left ≡ get_or l.work l.pos 0 / 2 ^ l.x) × NoneUsable l.work l.rows l.pos l.y l.from l.x

abbrev pub decreases-loop-left : goal.decreases-loop-left
decreases-loop-left l = l.left
