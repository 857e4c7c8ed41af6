-- `expand_slots` goes through the slots of a member. The invariant: the slots before `slot` are done and the member is still the pair.
use mathlib.Core.Path.{◌≡◌}
use Rattle.pair_places.specs.Flat.{cell}
use Rattle.pair_storage.specs.Entries.{node_at, entries_in}
use Rattle.pair_storage.specs.Marks.{marks}
use Rattle.pair_groups.specs.Ensured.{Expanding}
use Rattle.pair_groups.proofs.members.expand_slots.Given as goal

abbrev pub invariant-loop-slot : goal.invariant-loop-slot
invariant-loop-slot l =
    Expanding l.places (marks l.places l.work) l.work l.tail l.fn.member.group.start l.fn.member.group.end l.fn.member.symbol l.fn.member.index l.slot
    × (node_at (entries_in l.places l.work) l.fn.member.index ≡ cell l.places l.pair.low l.pair.high)
