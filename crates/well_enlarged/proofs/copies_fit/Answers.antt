use Rattle.std.proofs.Common.{rules, tests}
use Rattle.code.specs.Laws.Chains.{exactly_all_from}
use Rattle.well_enlarged.specs.WellEnlarged.{CopyFits}
use Rattle.well_enlarged.specs.Tests.{AtOwnPlace}
use Rattle.well_enlarged.proofs.copies_fit.Goals as goal

pub returns : goal.returns
returns c =
    let e = c.args.e.now in
    exactly_all_from e.originals e.code.count (λ x. AtOwnPlace e x × CopyFits e x) _ _ _ c.all.ensures.ran (λ x q k. search (rules, tests)) (λ x q k. search (rules, tests))
