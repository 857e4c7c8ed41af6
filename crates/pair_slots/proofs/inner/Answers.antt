-- `inner` is the place that is not an end, by the cases of `inner_of`.
use borrow.Author.Rules.{rules}
use Rattle.pair_slots.specs.Leaves.{inner_end, inner_inside}
use Rattle.pair_slots.proofs.inner.Goals as goal

pub returns-then-is_end : goal.returns-then-is_end
returns-then-is_end c = (search inner_end, search rules)

pub returns : goal.returns
returns c = (search inner_inside, search rules)
