-- `mark_all` meets its contract. The loop's invariant: tails, words to go on after and marks are right from `pos` on.
use Rattle.read_marks.specs.Message.{symbols_at}
use Rattle.read_marks.specs.Marks.{RightFor}
use Rattle.read_marks.proofs.mark_all.Given as goal

abbrev pub invariant-loop-pos : goal.invariant-loop-pos
invariant-loop-pos l =
    RightFor l.having l.ends l.rows l.longest (symbols_at l.cut l.message) l.tails l.work l.onward l.pos
