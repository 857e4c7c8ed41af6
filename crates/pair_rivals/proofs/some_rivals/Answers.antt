-- The closure asks of each word whether one before it is a rival.
use borrow.Author.Rules.{rules}
use borrow.Author.Tests.{tests}
use Rattle.pair_places.specs.Flat.{word_count}
use Rattle.pair_rivals.specs.Rivals.{rival_before, some_rivals}
use Rattle.pair_places.proofs.Searches.{any_passes}
use Rattle.pair_rivals.proofs.some_rivals.Goals as goal

pub returns : goal.returns
unfolding some_rivals
returns c =
    let f = c.args.places.now in
    any_passes (rival_before f) (word_count f) _ _ _ (cc) c.any.ensures.ran (λ x b q k. search (rules, tests))
