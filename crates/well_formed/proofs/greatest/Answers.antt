-- Each cell is what the closure gives for its number.
use Rattle.std.proofs.Common.{◌∙◌, rules, tests, ltb, if◌then◌else◌}
use Rattle.code.specs.Laws.Chains.{made_of}
use Rattle.well_formed.specs.AtMost.{greatest_cells}
use Rattle.well_formed.proofs.greatest.Goals as goal

pub returns : goal.returns
returns g c =
    let a = c.args in
    made_of (λ p. if ltb p a.n then a.v else 0) _ _ g.row.N 0 c.from_fn.ensures.items (λ x y q h k. search (rules, tests))
    ∙ greatest_cells a.v a.n g.row.N
