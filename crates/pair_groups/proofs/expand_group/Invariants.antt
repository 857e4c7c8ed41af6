-- `expand_group` deals with a group symbol by symbol. The invariant: the symbols before `symbol` are done for every member. The measure is what is left of the
-- alphabet.
use Prim.Native.Nat.{◌+◌, ◌≤◌, ◌-◌}
use lib.ListN.{length}
use Rattle.pair_places.specs.Flat.{pair_count}
use Rattle.pair_storage.specs.Entries.{entries_in}
use Rattle.pair_storage.specs.Marks.{marks}
use Rattle.pair_groups.specs.Ensured.{Stands}
use Rattle.pair_groups.proofs.expand_group.Given as goal

abbrev pub invariant-loop-symbol : goal.invariant-loop-symbol
invariant-loop-symbol l =
    Stands l.places (marks l.places l.work) (entries_in l.places l.work) l.tail l.group.start l.group.end l.symbol l.group.start 0 × (pair_count l.places + 2 ≤ length l.work)
    × (l.group.end ≤ length l.work)

abbrev pub decreases-loop-symbol : goal.decreases-loop-symbol
decreases-loop-symbol l = 16 - l.symbol
