-- The field that begins at the cursor is counted, and the byte after it tells which of the two ways the step goes.
use mathlib.Core.Path.{sym, ◌∙◌}
use Rattle.sheet_survey.specs.Passing.{span_records, step_comma, step_end}
use borrow.Author.Rules.{rules}
use Rattle.sheet_survey.proofs.next_field.Goals as goal

pub end_record-requires : goal.end_record-requires
end_record-requires c = let k = span_records _ _ _ _ c.take_span-v.ensures in search rules

pub returns-then-byte_at-eq44 : goal.returns-then-byte_at-eq44
returns-then-byte_at-eq44 c = let p = c.requires in
    let f = c.field_end-e.ensures in
    step_comma _ _ _ _ p.0 p.3 f.0 f.1 (c.take_span-v.ensures ∙ rw c.byte_at.ensures) (sym c.byte_at-2.ensures ∙ c.if-byte_at-eq44.true)

pub returns-else-byte_at-eq44 : goal.returns-else-byte_at-eq44
returns-else-byte_at-eq44 c = let p = c.requires in
    let f = c.field_end-e.ensures in
    rw c.end_record.ensures
    (step_end _ _ _ _ p.0 p.3 f.0 f.1 (c.take_span-v.ensures ∙ rw c.byte_at.ensures) (λ e. c.if-byte_at-eq44.false (c.byte_at-2.ensures ∙ e)))
