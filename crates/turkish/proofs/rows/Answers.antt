-- The one statement over all 144 entries: the rows of the constant are those that the rules give, by computation.
use mathlib.Core.Path.{refl}
use Rattle.turkish.proofs.rows.Goals as goal

pub returns : goal.returns
returns c = refl
