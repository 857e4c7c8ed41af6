-- The refusal of the sheet, or what enlarging its table gives.
use Rattle.verdict.proofs.Laws.Showing.{gives_refused, gives_accepted}
use Rattle.verdict.proofs.give.Goals as goal

pub returns-in-Err : goal.returns-in-Err
returns-in-Err c = search gives_refused

pub returns-in-Ok : goal.returns-in-Ok
returns-in-Ok c = search gives_accepted
