-- `all` says exactly whether all words and rows fit.
use Rattle.std.proofs.Common.{rules, tests}
use Rattle.code.specs.Definitions.Sheets.{limits}
use Rattle.code.specs.Laws.Chains.{exactly_all}
use Rattle.code.specs.Laws.WellFormed.{RecordAt}
use Rattle.well_formed.proofs.records_fit.Goals as goal

pub returns : goal.returns
returns c = exactly_all 32 (RecordAt limits c.args.code) _ _ _ c.all.ensures.ran (λ x q k. search (rules, tests)) (λ x q k. search (rules, tests))
