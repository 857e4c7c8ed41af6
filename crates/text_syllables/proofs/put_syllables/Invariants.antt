-- The syllables passed stand in the buffer with breaks between them (`Going`).
use Rattle.text_syllables.proofs.Laws.Turns.{Going}
use Rattle.text_syllables.proofs.put_syllables.Given as goal

abbrev pub invariant-loop-i : goal.invariant-loop-i
invariant-loop-i l = Going l.lengths l.reading l.letters l.initial.out l.at l.out l.next l.from l.i
