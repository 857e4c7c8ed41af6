use Rattle.std.proofs.Common.{rules, tests}
use Rattle.code.specs.Laws.Chains.{exactly_all}
use Rattle.well_enlarged.specs.Tests.{RowFits}
use Rattle.well_enlarged.proofs.matrix_fits.Goals as goal

pub returns : goal.returns
returns c = let e = c.args.e.now in exactly_all e.code.count (RowFits e) _ _ _ c.all.ensures.ran (λ x q k. search (rules, tests)) (λ x q k. search (rules, tests))
