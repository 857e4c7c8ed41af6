-- Each item is put within the list.
use Rattle.std.proofs.Common.{◌≤◌, length}
use Rattle.try_messages.proofs.lists.put.Given as goal

abbrev pub invariant-loop-item : goal.invariant-loop-item
invariant-loop-item l = (l.at ≤ length l.out) × (goal.iterator-loop-item).can_next l.item-iterator × (goal.iterator-loop-item).is_finite l.item-iterator
