-- What can be printed is printed; else nothing is written.
use mathlib.Core.Path.{refl}
use Rattle.printing.specs.Prints.{all, none}
use Rattle.printing.proofs.print_result.Goals as goal

pub returns-then-printable : goal.returns-then-printable
returns-then-printable c = all (c.printable.ensures.yes c.if-printable.true) c.put_result.ensures.count c.put_result.ensures.out

pub returns-else-printable : goal.returns-else-printable
returns-else-printable c = none (c.printable.ensures.no c.if-printable.false) refl
