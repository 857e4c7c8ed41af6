-- `pair_longest::run` meets its contract. The loop keeps a state of the search and the length of the list; with each turn a mark rises.
use mathlib.Core.Path.{◌≡◌}
use lib.ListN.{length}
use Rattle.code.specs.Laws.Cells.{total}
use Rattle.pair_places.specs.Flat.{pair_graph}
use Rattle.pair_storage.specs.Entries.{entries_in}
use Rattle.pair_storage.specs.Marks.{marks}
use Rattle.pair_heights.specs.Marks.{left}
use Rattle.pair_longest.specs.Explore.{Running}
use Rattle.pair_longest.proofs.run.Given as goal

abbrev pub invariant-loop-depth : goal.invariant-loop-depth
invariant-loop-depth l = Running l.places (marks l.places l.work) (entries_in l.places l.work) l.root l.depth × (length l.work ≡ length l.initial.work)

abbrev pub decreases-loop-depth : goal.decreases-loop-depth
decreases-loop-depth l = total (left (pair_graph l.places)) (marks l.places l.work)
