-- `reaches_ends` starts as `shortest` does, and tells whether the exploration met a goal.
use borrow.Author.Rules.{rules}
use Rattle.pair_shortest.specs.Writing.{started, goal_met}
use Rattle.pair_shortest.proofs.reaches_ends.Goals as goal

pub explore-requires : goal.explore-requires
explore-requires c = (search rules, search rules, search rules, search started)

pub returns : goal.returns
returns c = search goal_met
