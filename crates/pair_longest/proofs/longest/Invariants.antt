-- `pair_longest::longest` meets its contract. The loop keeps what is counted up to the next row, and the room of the list.
use Prim.Native.Nat.{◌+◌, ◌≤◌}
use lib.ListN.{length}
use Rattle.pair_places.specs.Flat.{cell_count}
use Rattle.pair_storage.specs.Marks.{marks}
use Rattle.pair_longest.specs.Visit.{Counting}
use Rattle.pair_longest.proofs.longest.Given as goal

abbrev pub invariant-loop-x : goal.invariant-loop-x
invariant-loop-x l =
    Counting l.places (marks l.places l.work) l.x (l.x + 1) l.most × (cell_count l.places ≤ length l.work)
