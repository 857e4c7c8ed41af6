-- `pair_longest::explore` meets its contract: the root is searched from, or its mark has its height.
use borrow.Author.Rules.{rules}
use Rattle.pair_longest.specs.Explore.{root_room, running, known_mark, known}
use Rattle.pair_longest.proofs.explore.Goals as goal

pub start-requires : goal.start-requires
start-requires c = (search rules, search root_room)

pub run-requires : goal.run-requires
run-requires c = search running

pub height_at-requires : goal.height_at-requires
height_at-requires c = (search rules, search known_mark)

pub returns : goal.returns
returns c = search known
