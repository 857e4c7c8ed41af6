-- `two_ends` is the goal of the open graph, by its cases: the places are the same, the lower is an end, or it is not.
use Rattle.pair_slots.specs.Leaves.{ends_same, ends_both, ends_inside}
use Rattle.pair_slots.proofs.two_ends.Goals as goal

pub returns-then-pair : goal.returns-then-pair
returns-then-pair c = search ends_same

pub returns-then-is_end : goal.returns-then-is_end
returns-then-is_end c = search ends_both

pub returns : goal.returns
returns c = search ends_inside
