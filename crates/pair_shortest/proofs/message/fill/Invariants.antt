-- `fill` stores a label back to front. The invariant: the last symbols are stored from `at` on, and the label of `index` comes before them. The measure is
-- `index`.
use mathlib.Core.Path.{◌≡◌}
use lib.ListN.{length}
use Rattle.pair_places.specs.Opens.{open_graph}
use Rattle.pair_storage.specs.Entries.{entries_in}
use Rattle.pair_shortest.specs.Spelling.{Filled}
use Rattle.pair_shortest.proofs.message.fill.Given as goal

abbrev pub invariant-loop-index : goal.invariant-loop-index
invariant-loop-index l =
    Filled (open_graph l.places) (entries_in l.places l.work) l.start l.count l.initial.message l.index l.at l.message × (length l.message ≡ length l.initial.message)

abbrev pub decreases-loop-index : goal.decreases-loop-index
decreases-loop-index l = l.index
