-- The closure asks of each word before `x` whether it is a rival.
use mathlib.Core.Path.{refl}
use borrow.Author.Rules.{rules}
use borrow.Author.Tests.{tests}
use Rattle.pair_places.specs.Flat.{rivals_at}
use Rattle.pair_rivals.specs.Rivals.{rival_before}
use Rattle.pair_places.proofs.Searches.{any_passes}
use Rattle.pair_rivals.proofs.has_rival.Goals as goal

pub returns : goal.returns
unfolding rival_before
returns c = let a = c.args in any_passes (rivals_at a.places.now a.x) a.x _ _ _ refl c.any.ensures.ran (λ x b q k. search (rules, tests))
