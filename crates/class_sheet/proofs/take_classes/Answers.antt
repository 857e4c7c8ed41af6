-- The refusal 1 and wrong bytes first; then the body without a final CR LF, whose records decide.
use mathlib.Core.Path.{sym, ◌∙◌}
use lib.Seq.{length-take-le}
use Rattle.code.specs.Laws.Clean.{clean_body}
use Rattle.class_sheet.proofs.Laws.Taking.{way_empty, way_bytes, way_records}
use native.Mathlib.Omega.{arith}
use Rattle.class_sheet.proofs.take_classes.Goals as goal

pub returns-then-n-eq0 : goal.returns-then-n-eq0
returns-then-n-eq0 c = c.refuse.ensures ∙ way_empty _ c.if-n-eq0.true

pub returns-then-bad_bytes : goal.returns-then-bad_bytes
returns-then-bad_bytes c =
    c.refuse-then-bad_bytes.ensures
    ∙ way_bytes _ c.if-n-eq0.false (omega arith) (sym c.bad_bytes.ensures ∙ c.if-bad_bytes.true)

pub slice_bounds-take_body-end : goal.slice_bounds-take_body-end
slice_bounds-take_body-end c = sym (length-take-le _ c.before.before.before.before.before.before.before.args.sheet.now c.body_len-e.ensures.1)

pub take_body-requires : goal.take_body-requires
take_body-requires c =
    rw c.body_len-e.ensures.0
    (clean_body c.before.before.before.before.before.before.before.args.sheet.now (sym c.bad_bytes.ensures ∙ c.if-bad_bytes.false))

pub returns : goal.returns
returns c =
    c.take_body.ensures
    ∙ rw c.body_len-e.ensures.0
    (way_records _ c.if-n-eq0.false (omega arith)
    (sym c.bad_bytes.ensures ∙ c.if-bad_bytes.false))
