-- The start is asked first, and then the closure asks each word.
use mathlib.Core.Path.{refl, ◌∙◌}
use borrow.Author.Rules.{rules}
use borrow.Author.Tests.{tests}
use Rattle.pair_places.specs.Flat.{at_start, both_behind}
use Rattle.pair_rivals.specs.Rivals.{rivals_start, rivals_behind}
use Rattle.pair_places.proofs.Searches.{any_passes}
use Rattle.pair_rivals.proofs.are_rivals.Goals as goal

pub returns-then-both_behind : goal.returns-then-both_behind
returns-then-both_behind c = let a = c.args in rivals_start a.places.now a.x a.y c.both_behind.ensures c.if-both_behind.true

pub returns-else-both_behind : goal.returns-else-both_behind
returns-else-both_behind c =
    let a = c.args in
    any_passes (both_behind a.places.now a.x a.y) at_start _ _ _ refl c.any.ensures.ran (λ x b q k. search (rules, tests)) ∙ rivals_behind a.places.now a.x a.y c.both_behind.ensures c.if-both_behind.false
