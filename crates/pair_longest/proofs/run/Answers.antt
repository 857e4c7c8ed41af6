use borrow.Author.Rules.{rules}
use Rattle.pair_heights.specs.Search.{searching}
use Rattle.pair_longest.specs.Explore.{run_on, run_less, run_cycle, run_mark, run_end}
use Rattle.pair_longest.proofs.run.Goals as goal

pub advance-requires : goal.advance-requires
advance-requires c = search searching

pub loop-depth-smaller : goal.loop-depth-smaller
loop-depth-smaller c = search (run_less, c.in_ok-depth.was)

pub loop-depth-preserved : goal.loop-depth-preserved
loop-depth-preserved c = (search (run_on, c.in_ok-depth.was), (cc))

pub returns-in_err-depth : goal.returns-in_err-depth
returns-in_err-depth c = rw c.from_residual.ensures (search (run_cycle, c.in_err-depth.was))

pub height_at-requires : goal.height_at-requires
height_at-requires c = (search rules, search run_mark)

pub returns : goal.returns
returns c = search run_end
