-- The first pair of rivals, and no pair of other words.
use Rattle.pair_rivals.specs.Rivals.{arrives_rivals, arrives_not}
use Rattle.pair_rivals.proofs.rival_pair.Goals as goal

pub returns-then-are_rivals : goal.returns-then-are_rivals
returns-then-are_rivals c =
    let a = c.args in
    arrives_rivals a.places.now a.x a.y c.are_rivals.ensures c.if-are_rivals.true c.first_pair.ensures

pub returns : goal.returns
returns c =
    let a = c.args in
    arrives_not a.places.now a.x a.y c.are_rivals.ensures c.if-are_rivals.false c.no_pair.ensures
