-- `shortest` starts with the source alone and no mark, and answers as the exploration ends.
use borrow.Author.Rules.{rules}
use Rattle.pair_shortest.specs.Ensured.{found}
use Rattle.pair_shortest.specs.Writing.{started, was_reached, answer_nothing}
use Rattle.pair_shortest.proofs.shortest.Goals as goal

pub explore-requires : goal.explore-requires
explore-requires c = (search rules, search rules, search rules, search started)

pub returns-in_err-step : goal.returns-in_err-step
returns-in_err-step c = rw c.from_residual.ensures (search (answer_nothing, c.in_err-step.was))

pub write-requires : goal.write-requires
write-requires c =
    (search rules, was_reached c.explore.ensures c.in_ok-step.was, search rules, search rules)

pub returns : goal.returns
returns c = search found
