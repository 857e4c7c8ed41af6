-- The survey's answer decides, and its records and their width tell what to build.
use mathlib.Core.Path.{sym, ◌∙◌}
use Rattle.sheet.proofs.Laws.Taking.{way_refused, way_accepted, count_accepted, starts_accepted, fits_accepted}
use Rattle.sheet.proofs.take_body.Goals as goal

pub build-requires : goal.build-requires
build-requires c =
    let p = c.requires in
    let v = c.survey_all-v.ensures.0 in
    let t = c.has_starts-starts.ensures in
    let accepted = sym c.judge-answer.ensures ∙ c.in-Ok.is in
    (p.0, p.1, fits_accepted _ _ _ v t accepted, count_accepted _ _ _ v t, starts_accepted _ _ _ v t)

pub returns-in-Err : goal.returns-in-Err
returns-in-Err c =
    let v = c.survey_all-v.ensures.0 in
    let t = c.has_starts-starts.ensures in
    c.refuse.ensures ∙ way_refused _ _ _ v t _ (sym c.judge-answer.ensures ∙ c.in-Err.is)

pub returns-in-Ok : goal.returns-in-Ok
returns-in-Ok c =
    let v = c.survey_all-v.ensures.0 in
    let t = c.has_starts-starts.ensures in
    rw c.build.ensures (way_accepted _ _ _ v t (sym c.judge-answer.ensures ∙ c.in-Ok.is))
