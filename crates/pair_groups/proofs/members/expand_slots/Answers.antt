use borrow.Author.Rules.{rules}
use Rattle.pair_groups.specs.Parts.{space}
use Rattle.pair_groups.proofs.Laws.Steps.{same_number}
use Rattle.pair_groups.proofs.Laws.Straights.{slot_next, slot_goal, slots_ended}
use Rattle.pair_groups.proofs.members.expand_slots.Goals as goal

pub meet-requires : goal.meet-requires
meet-requires c = (search rules, search space, search rules, search rules)

pub returns-in_err-tail : goal.returns-in_err-tail
returns-in_err-tail c = rw c.from_residual.ensures (search (slot_goal, c.in_err-tail.was))

pub loop-slot-preserved : goal.loop-slot-preserved
loop-slot-preserved c =
    let given = c.requires in
    (search (slot_next, c.loop-slot.invariant.0, c.loop-slot.invariant.1, given.2, c.in_ok-tail.was), search same_number)

pub returns : goal.returns
returns c = search slots_ended
