use Rattle.pair_shortest.specs.Depth.{count_begin, count_some, count_falls, count_next, count_most, count_end}
use native.Mathlib.Omega.{arith}
use Rattle.pair_shortest.proofs.message.depth.Goals as goal

pub loop-index-init : goal.loop-index-init
loop-index-init c = search count_begin

pub overflow_sub-index : goal.overflow_sub-index
overflow_sub-index c = search count_some

pub overflow_add-count : goal.overflow_add-count
overflow_add-count c = let h = count_most c.loop-index.invariant in omega arith

pub loop-index-smaller : goal.loop-index-smaller
loop-index-smaller c = search count_falls

pub loop-index-preserved : goal.loop-index-preserved
loop-index-preserved c = search count_next

pub returns : goal.returns
returns c = (search count_end, search count_most)
