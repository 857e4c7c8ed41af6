-- `pair_longest::row` meets its contract. The loop keeps what is counted up to the next word, and the room of the list.
use Prim.Native.Nat.{◌≤◌}
use lib.ListN.{length}
use Rattle.pair_places.specs.Flat.{cell_count}
use Rattle.pair_storage.specs.Marks.{marks}
use Rattle.pair_longest.specs.Visit.{Counting}
use Rattle.pair_longest.proofs.row.Given as goal

abbrev pub invariant-loop-y : goal.invariant-loop-y
invariant-loop-y l =
    Counting l.places (marks l.places l.work) l.x l.y l.most × (cell_count l.places ≤ length l.work)
