-- `group_end` scans for the end of a group. The invariant: the entries from `start` to `end` have one key.
use Rattle.pair_places.specs.Opens.{open_graph}
use Rattle.pair_storage.specs.Entries.{entries_in}
use Rattle.pair_groups.proofs.Laws.Runs.{Run}
use Rattle.pair_groups.proofs.group_end.Given as goal

abbrev pub invariant-loop-end : goal.invariant-loop-end
invariant-loop-end l = Run (open_graph l.places) (entries_in l.places l.work) l.tail l.start l.end
