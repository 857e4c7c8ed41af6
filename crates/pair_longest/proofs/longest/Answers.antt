use borrow.Author.Rules.{rules}
use Rattle.pair_longest.specs.Answer.{was_unbounded}
use Rattle.pair_longest.specs.Visit.{counted}
use Rattle.pair_longest.specs.Extents.{counting_none, counting_all}
use Rattle.pair_longest.proofs.longest.Goals as goal

pub loop-x-init : goal.loop-x-init
loop-x-init c = (search counting_none, search rules)

pub returns-in_err-most : goal.returns-in_err-most
returns-in_err-most c = rw c.from_residual.ensures (search (was_unbounded, c.in_err-most.was))

pub loop-x-preserved : goal.loop-x-preserved
loop-x-preserved c = (search (counted, c.in_ok-most.was), search rules)

pub returns : goal.returns
returns c = search counting_all
