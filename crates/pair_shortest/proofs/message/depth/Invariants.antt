-- `depth` counts the steps to the source. The invariant: `count` steps lead from `start` to `index`. The measure is `index`, since `from` leads back.
use Rattle.pair_storage.specs.Entries.{links}
use Rattle.pair_shortest.specs.Depth.{Counted}
use Rattle.pair_shortest.proofs.message.depth.Given as goal

abbrev pub invariant-loop-index : goal.invariant-loop-index
invariant-loop-index l = Counted (links l.work) l.start l.index l.count

abbrev pub decreases-loop-index : goal.decreases-loop-index
decreases-loop-index l = l.index
