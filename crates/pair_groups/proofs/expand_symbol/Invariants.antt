-- `expand_symbol` deals with the members of a group for one symbol. The invariant: the members before `index` are done.
use Prim.Native.Nat.{◌+◌, ◌≤◌}
use lib.ListN.{length}
use Rattle.pair_places.specs.Flat.{pair_count}
use Rattle.pair_storage.specs.Entries.{entries_in}
use Rattle.pair_storage.specs.Marks.{marks}
use Rattle.pair_groups.specs.Ensured.{Stands}
use Rattle.pair_groups.proofs.expand_symbol.Given as goal

abbrev pub invariant-loop-index : goal.invariant-loop-index
invariant-loop-index l =
    Stands l.places (marks l.places l.work) (entries_in l.places l.work) l.tail l.group.start l.group.end l.symbol l.index 0 × (pair_count l.places + 2 ≤ length l.work)
