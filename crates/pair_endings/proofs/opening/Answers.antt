-- The closure asks of each word whether it may not begin.
use mathlib.Core.Path.{refl, ◌∙◌, ap}
use mathlib.Core.Bool.{not}
use mir.Val.{bool_byte}
use borrow.Author.Rules.{rules}
use borrow.Author.Tests.{tests}
use Rattle.pair_places.specs.Flat.{at_start, may_come}
use Rattle.pair_places.proofs.Searches.{any_passes}
use Rattle.pair_endings.specs.Openings.{opens_byte}
use Rattle.pair_endings.proofs.opening.Goals as goal

pub returns : goal.returns
returns c =
    let f = c.args.places.now in
    opens_byte f c.word_count-n.ensures.0
    (any_passes (λ x. not (may_come f x at_start)) c.word_count-n.result _ _ _ refl c.any.ensures.ran (λ x b q k. search (rules, tests)))
    (λ e. c.from.ensures ∙ ap bool_byte e)
