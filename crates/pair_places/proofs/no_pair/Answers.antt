-- `pair_places::no_pair` meets its contract: the cell of its two numbers is past every cell.
use mathlib.Core.Path.{refl}
use Rattle.pair_places.specs.Steps.{nowhere}
use Rattle.pair_places.proofs.no_pair.Goals as goal

pub returns : goal.returns
returns c =
    nowhere c.args.places.now c.requires.some c.place_count.ensures refl
