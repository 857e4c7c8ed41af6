-- The array has the number of a word of the code.
use mathlib.Core.Path.{refl}
use Rattle.ban_copies.specs.Held.{number_below}
use Rattle.ban_copies.proofs.filling.origin_of.Goals as goal

pub returns : goal.returns
returns c = (refl, number_below c.requires.0 c.args.x c.requires.1)
