-- `at_most` says exactly whether no cell is above its greatest value. The invariant: `over` is 0 exactly where none of the cells so far is.
use lib.ListN.{length}
use Rattle.well_formed.specs.AtMost.{NoExcess}
use Rattle.well_formed.proofs.at_most.Given as goal

abbrev pub invariant-loop-v : goal.invariant-loop-v
invariant-loop-v l = NoExcess l.a l.most (length l.yielded) l.over
