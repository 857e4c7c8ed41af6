-- `expand_word` passes over the slots of a word that does not lead by the symbol. Else it goes through the words in order behind it. The invariant: the slots
-- before that of the words `x` and `z` are done.
use Prim.Native.Nat.{◌+◌, ◌*◌, ◌≤◌}
use Rattle.code.specs.Definitions.Sheets.{limits}
use Rattle.pair_storage.specs.Entries.{node_at, entries_in}
use Rattle.pair_storage.specs.Marks.{marks}
use Rattle.pair_slots.specs.Ensured.{Turned}
use Rattle.pair_slots.specs.Words.{least_behind}
use Rattle.pair_groups.specs.Ensured.{Expanding}
use Rattle.pair_groups.proofs.members.expand_word.Given as goal

abbrev pub invariant-loop-z : goal.invariant-loop-z
invariant-loop-z l =
    Expanding l.places (marks l.places l.work) l.work l.tail l.fn.member.group.start l.fn.member.group.end l.fn.member.symbol l.fn.member.index (l.x * limits.words + l.z)
    × Turned l.places (node_at (entries_in l.places l.work) l.fn.member.index) l.y
    × (least_behind l.places l.x ≤ l.z)
    × (l.z ≤ limits.words)
