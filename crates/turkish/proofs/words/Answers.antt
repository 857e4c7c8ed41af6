-- The twelve words of the constant are those of the types, by computation.
use mathlib.Core.Path.{refl}
use Rattle.code.specs.Definitions.Lists.{tabulate}
use Rattle.turkish.specs.Types.{padded}
use Rattle.turkish.proofs.words.Goals as goal

pub returns : goal.returns
unfolding tabulate padded
returns c = refl
