-- An array of zeros is the table of zeros.
use mathlib.Core.Path.{refl}
use Rattle.code.specs.Definitions.Lists.{tabulate}
use Rattle.code.proofs.blanks.blank_row.Goals as goal

pub returns : goal.returns
unfolding tabulate
returns c = refl
