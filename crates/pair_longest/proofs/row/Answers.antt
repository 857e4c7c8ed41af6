use borrow.Author.Rules.{rules}
use native.Mathlib.Omega.{arith}
use Prim.Native.Nat.{◌<◌}
use Rattle.pair_longest.specs.Answer.{was_unbounded}
use Rattle.pair_longest.specs.Visit.{visiting, counted, row_end}
use Rattle.pair_longest.proofs.row.Goals as goal

pub visit-requires : goal.visit-requires
visit-requires c = let order : c.args.x < c.loop-y.y = omega arith in search visiting

pub returns-in_err-most : goal.returns-in_err-most
returns-in_err-most c = rw c.from_residual.ensures (search (was_unbounded, c.in_err-most.was))

pub loop-y-preserved : goal.loop-y-preserved
loop-y-preserved c = (search (counted, c.in_ok-most.was), search rules)

pub returns : goal.returns
returns c = search row_end
