-- `advance` finds the group and deals with it, so the search stands before the next group.
use borrow.Author.Rules.{rules}
use Rattle.pair_shortest.proofs.Laws.Groups.{between_known, entered, expand_goal, expand_next}
use Rattle.pair_shortest.proofs.advance.Goals as goal

pub group_end-requires : goal.group_end-requires
group_end-requires c = (search rules, search between_known, search rules, search rules, search rules)

pub expand_group-requires : goal.expand_group-requires
expand_group-requires c = (search rules, search rules, search rules, search entered)

pub returns-in_err-tail : goal.returns-in_err-tail
returns-in_err-tail c = rw c.from_residual.ensures (search (expand_goal, c.in_err-tail.was))

pub returns : goal.returns
returns c = search (expand_next, c.in_ok-tail.was)
