-- `width` counts the slots of a pair if the symbol leads it on, else none.
use Rattle.pair_slots.specs.Leaves.{width_leads, width_none}
use Rattle.pair_slots.proofs.width.Goals as goal

pub returns-then-places-place : goal.returns-then-places-place
returns-then-places-place c = search width_leads

pub returns : goal.returns
returns c = search width_none
