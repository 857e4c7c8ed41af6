-- `explore` deals with group after group. The invariant: all groups before the rest are done. The measure falls as the rest starts later: the queue has no more
-- entries than the source and the pairs.
use Prim.Native.Nat.{◌+◌, ◌≤◌, ◌-◌}
use lib.ListN.{length}
use Rattle.pair_places.specs.Flat.{pair_count}
use Rattle.pair_places.specs.Opens.{open_graph}
use Rattle.pair_storage.specs.Entries.{entries_in}
use Rattle.pair_storage.specs.Marks.{marks}
use Rattle.pair_groups.specs.Queue.{Between}
use Rattle.pair_shortest.proofs.explore.Given as goal

abbrev pub invariant-loop-rest : goal.invariant-loop-rest
invariant-loop-rest l =
    Between (open_graph l.places) (marks l.places l.work) (entries_in l.places l.work) l.rest.tail l.rest.start × (pair_count l.places + 2 ≤ length l.work) × (l.rest.tail ≤ pair_count l.places + 1)

abbrev pub decreases-loop-rest : goal.decreases-loop-rest
decreases-loop-rest l = pair_count l.places + 1 - l.rest.start
