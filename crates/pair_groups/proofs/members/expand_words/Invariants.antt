-- `expand_words` goes through the words. The invariant: the slots of the words before `x` are done, and the member still turns.
use Prim.Native.Nat.{◌*◌}
use Rattle.code.specs.Definitions.Sheets.{limits}
use Rattle.pair_storage.specs.Entries.{node_at, entries_in}
use Rattle.pair_storage.specs.Marks.{marks}
use Rattle.pair_slots.specs.Ensured.{Turned}
use Rattle.pair_groups.specs.Ensured.{Expanding}
use Rattle.pair_groups.proofs.members.expand_words.Given as goal

abbrev pub invariant-loop-x : goal.invariant-loop-x
invariant-loop-x l =
    Expanding l.places (marks l.places l.work) l.work l.tail l.member.group.start l.member.group.end l.member.symbol l.member.index (l.x * limits.words)
    × Turned l.places (node_at (entries_in l.places l.work) l.member.index) l.y
