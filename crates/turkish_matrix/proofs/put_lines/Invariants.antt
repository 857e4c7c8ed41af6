-- The lines of the rows passed stand in the buffer.
use mathlib.Core.List.{[]}
use Rattle.writing.specs.Fields.{fields_to}
use Rattle.writing.specs.Puts.{Puts}
use Rattle.turkish_matrix.proofs.Laws.Lines.{all_lines}
use Rattle.turkish_matrix.proofs.put_lines.Given as goal

abbrev pub invariant-loop-x : goal.invariant-loop-x
invariant-loop-x l = Puts l.at (fields_to [] all_lines l.x) l.initial.out l.out l.next
