-- Every entry of the constant is what the lists of letters say: both are worked out and compared.
use mathlib.Core.Path.{refl}
use Rattle.code.specs.Definitions.Lists.{any, tabulate}
use Rattle.turkish_letters.specs.Letters.{turkish_classes}
use Rattle.turkish_letters.proofs.turkish.Goals as goal

pub returns : goal.returns
unfolding turkish_classes tabulate any
returns c = refl
