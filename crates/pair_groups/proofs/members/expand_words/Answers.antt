use borrow.Author.Rules.{rules}
use Rattle.pair_groups.specs.Parts.{goal_again, expanding_next}
use Rattle.pair_groups.proofs.Laws.Words.{words_ended}
use Rattle.pair_groups.proofs.members.expand_words.Goals as goal

pub returns-in_err-tail : goal.returns-in_err-tail
returns-in_err-tail c = rw c.from_residual.ensures (search (goal_again, c.in_err-tail.was))

pub loop-x-preserved : goal.loop-x-preserved
loop-x-preserved c = (search (expanding_next, c.in_ok-tail.was), search rules)

pub returns : goal.returns
returns c = search words_ended
