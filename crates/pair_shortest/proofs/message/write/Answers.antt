-- `write` stores the label of the group and the symbol after it: the least message, by what was shown of the goal.
use borrow.Author.Rules.{rules}
use Rattle.pair_shortest.specs.Writing.{met_depth, met_spelled, met_message}
use native.Mathlib.Omega.{arith}
use lib.ListN.{length-set}
use Rattle.pair_shortest.proofs.message.write.Goals as goal

pub depth-count-requires : goal.depth-count-requires
depth-count-requires c = (search met_depth, search rules)

pub fill-requires : goal.fill-requires
fill-requires c = (
  search rules,
  search met_spelled,
  search rules,
  search rules,
  omega (arith, length-set c.args.message.now c.depth-count.result c.args.step.symbol),
)

pub returns : goal.returns
returns c = search met_message
