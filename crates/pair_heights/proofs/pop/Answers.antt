-- `pair_heights::pop` meets its contract: the pair on top is finished and was the last, or the pair below passes its slot.
use borrow.Author.Rules.{rules}
use Rattle.pair_heights.specs.Pop.{pop_within, pop_finishes, pop_through, pop_last, pop_below, pop_passed}
use Rattle.pair_heights.proofs.pop.Goals as goal

pub above_at-height-requires : goal.above_at-height-requires
above_at-height-requires c = search pop_within

pub set_mark-requires : goal.set_mark-requires
set_mark-requires c = (search rules, search pop_finishes)

pub returns-then-rest-eq0 : goal.returns-then-rest-eq0
returns-then-rest-eq0 c = search pop_last

pub pass-requires : goal.pass-requires
pass-requires c = (search pop_below, search pop_through)

pub returns : goal.returns
returns c = search pop_passed
