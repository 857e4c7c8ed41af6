use borrow.Author.Rules.{rules}
use Rattle.pair_shortest.proofs.Laws.Groups.{was_moved, explore_goal, explore_end, explore_less, moved_few}
use Rattle.pair_shortest.proofs.explore.Goals as goal

pub returns-in-Break : goal.returns-in-Break
returns-in-Break c = search explore_goal

pub loop-rest-smaller : goal.loop-rest-smaller
loop-rest-smaller c = search explore_less

pub loop-rest-preserved : goal.loop-rest-preserved
loop-rest-preserved c = (search was_moved, search rules, search moved_few)

pub returns : goal.returns
returns c = search explore_end
