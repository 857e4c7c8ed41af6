use borrow.Author.Rules.{rules}
use Rattle.pair_groups.specs.Parts.{was_tail, goal_again, expanding, symbol_end}
use Rattle.pair_groups.proofs.expand_symbol.Goals as goal

pub expand_member-requires : goal.expand_member-requires
expand_member-requires c = search expanding

pub returns-in_err-tail : goal.returns-in_err-tail
returns-in_err-tail c = rw c.from_residual.ensures (search (goal_again, c.in_err-tail.was))

pub loop-index-preserved : goal.loop-index-preserved
loop-index-preserved c = (search (was_tail, c.in_ok-tail.was), search rules)

pub returns : goal.returns
returns c = search symbol_end
