-- The answer to the records decides.
use mathlib.Core.Path.{◌∙◌}
use Rattle.class_sheet.proofs.Laws.Taking.{way_refused, way_accepted}
use Rattle.class_sheet.proofs.take_body.Goals as goal

pub returns-in-Err : goal.returns-in-Err
returns-in-Err c = c.refuse.ensures ∙ way_refused c.take_records-answer.ensures c.in-Err.is

pub returns-in-Ok : goal.returns-in-Ok
returns-in-Ok c = way_accepted c.take_records-answer.ensures c.in-Ok.is
