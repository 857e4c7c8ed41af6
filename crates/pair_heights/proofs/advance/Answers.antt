-- `pair_heights::advance` meets its contract: a slot is followed, or the pair on top has none left and is popped.
use borrow.Author.Rules.{rules}
use Rattle.pair_heights.specs.Search.{top_within, top_low, top_high, top_marked, top_met}
use Rattle.pair_heights.proofs.Laws.Advance.{following, popping}
use Rattle.pair_heights.proofs.advance.Goals as goal

pub pair_at-pair-requires : goal.pair_at-pair-requires
pair_at-pair-requires c = search top_within

pub mark-slot-requires : goal.mark-slot-requires
mark-slot-requires c = search top_marked

pub overflow_sub-slot : goal.overflow_sub-slot
overflow_sub-slot c = search top_met

pub slots-requires : goal.slots-requires
slots-requires c = (search rules, search top_low, search top_high)

pub follow-requires : goal.follow-requires
follow-requires c = search following

pub pop-requires : goal.pop-requires
pop-requires c =
    popping c.args.places.now c.args.work.now c.requires c.pair_at-pair.ensures c.mark-slot.ensures.0 c.slots.ensures c.if-slot-slots.false
