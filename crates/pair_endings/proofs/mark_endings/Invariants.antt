-- `mark_endings` marks word after word. The invariant: what is marked ends a sequence. The measure is the number of words not marked.
use Rattle.code.specs.Laws.Cells.{total}
use Rattle.pair_endings.specs.Closing.{Sound, open1}
use Rattle.pair_endings.proofs.mark_endings.Given as goal

abbrev pub invariant-loop-x : goal.invariant-loop-x
invariant-loop-x l = Sound l.places l.marks

abbrev pub decreases-loop-x : goal.decreases-loop-x
decreases-loop-x l = total open1 l.marks
