-- The numbers passed stand in the buffer, parted as asked.
use mathlib.Core.Path.{◌≡◌}
use mathlib.Core.List.{map}
use lib.ListN.{length}
use Rattle.printing.specs.Printed.{decimal}
use Rattle.writing.specs.Puts.{Puts}
use Rattle.writing.specs.Fields.{fields_to}
use Rattle.printing.proofs.puts.put_numbers.Given as goal

abbrev pub invariant-loop-i : goal.invariant-loop-i
invariant-loop-i l = (length l.out ≡ length l.initial.out) × Puts l.at (fields_to l.sep (map decimal l.numbers) l.i) l.initial.out l.out l.next
