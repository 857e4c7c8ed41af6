-- Where `x` may not begin, the closure asks of each word whether it lets `x` come.
use borrow.Author.Rules.{rules}
use borrow.Author.Tests.{tests}
use Rattle.pair_places.specs.Flat.{word_count}
use Rattle.pair_places.proofs.Searches.{any_passes}
use Rattle.pair_endings.specs.Closing.{lets_come, comes_behind}
use Rattle.pair_endings.proofs.comes.Goals as goal

pub returns-else-may_come : goal.returns-else-may_come
returns-else-may_come c =
    let a = c.args in
    comes_behind a.places.now a.marks.now a.x c.may_come.ensures c.if-may_come.false
    (any_passes (lets_come a.places.now a.marks.now a.x) (word_count a.places.now) _ _ _ (cc) c.any.ensures.ran (λ y b q k. search (rules, tests)))
