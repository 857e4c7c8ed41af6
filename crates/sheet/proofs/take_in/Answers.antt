-- The refusals 1 and 2 first; then the body without a final CR LF, whose records decide.
use mathlib.Core.Path.{sym, ◌∙◌}
use native.Mathlib.Omega.{arith}
use lib.Seq.{length-take-le}
use Rattle.code.specs.Laws.Clean.{clean_body}
use Rattle.sheet.proofs.Laws.Taking.{way_empty, way_long, way_bytes, way_records}
use Rattle.sheet.proofs.take_in.Goals as goal

pub returns-then-n-eq0 : goal.returns-then-n-eq0
returns-then-n-eq0 c = c.refuse.ensures ∙ way_empty _ c.if-n-eq0.true

pub returns-then-n-gt-BYTES : goal.returns-then-n-gt-BYTES
returns-then-n-gt-BYTES c = c.refuse-then-n-gt-BYTES.ensures ∙ way_long _ c.if-n-gt-BYTES.true

pub returns-then-bad_bytes : goal.returns-then-bad_bytes
returns-then-bad_bytes c = c.refuse-then-bad_bytes.ensures
    ∙ way_bytes _ c.if-n-eq0.false c.if-n-gt-BYTES.false (sym c.bad_bytes.ensures ∙ c.if-bad_bytes.true)

pub slice_bounds-take_body-end : goal.slice_bounds-take_body-end
slice_bounds-take_body-end c = let s = c.before.before.before.before.before.before.before.args.sheet.now in
    sym (length-take-le _ s c.body_len-e.ensures.1)

pub take_body-requires : goal.take_body-requires
take_body-requires c = let s = c.before.before.before.before.before.before.before.args.sheet.now in
    let b = c.body_len-e.ensures in
    let short = c.if-n-gt-BYTES.false in
    (rw b.0 (clean_body s (sym c.bad_bytes.ensures ∙ c.if-bad_bytes.false)), omega (arith, length-take-le _ s b.1, b.1, short))

pub returns : goal.returns
returns c = let b = c.body_len-e.ensures in
    c.take_body.ensures
    ∙ rw b.0 (way_records _ c.if-n-eq0.false c.if-n-gt-BYTES.false
    (sym c.bad_bytes.ensures ∙ c.if-bad_bytes.false))
