-- The classes are those of no range.
use mathlib.Core.Path.{refl}
use Rattle.code.specs.Definitions.ClassSheets.{class_by, classes_of, no_letters}
use Rattle.code.specs.Definitions.Lists.{tabulate}
use Rattle.class_sheet.proofs.refuse.Goals as goal

pub returns : goal.returns
unfolding tabulate class_by classes_of no_letters
returns c = refl
