-- `least_in_order` is `least_behind`, by whether openings matter.
use borrow.Author.Rules.{rules}
use Rattle.pair_slots.specs.Words.{least_same, least_next}
use Rattle.pair_slots.proofs.meeting.least_in_order.Goals as goal

pub returns-then-opens : goal.returns-then-opens
returns-then-opens c = (search least_same, search rules)

pub returns : goal.returns
returns c = (search least_next, search rules)
