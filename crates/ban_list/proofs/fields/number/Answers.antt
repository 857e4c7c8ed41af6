-- A field by its length and its first byte; where these allow it its digits decide.
use Rattle.std.proofs.Common.{sym, ◌∙◌, arith, eqb-true, ltb-true}
use Rattle.std.proofs.lemmas.Bool.{eqb-false}
use Rattle.ban_list.specs.Numbers.{number_none, number_padded, number_value}
use Rattle.ban_list.proofs.fields.number.Goals as goal
use Rattle.ban_list.proofs.fields.number.Goals.{then-field-gt1, else-field-gt1}

pub returns-then-is_empty : goal.returns-then-is_empty
returns-then-is_empty c = number_none _ _ (eqb-true _ 0 (sym c.is_empty.ensures ∙ c.if-is_empty.true))

pub returns-then-padded : goal.returns-then-padded
returns-then-padded c =
    elim c.if-field-gt1.branch [
      | then-field-gt1 w ↦ number_padded _ _ w.if-field-gt1.true (eqb-true _ 48 (sym w.padded-is ∙ c.if-padded.true))
      | else-field-gt1 w ↦ absurd (omega (arith, ltb-true 1 _ (sym w.padded-is ∙ c.if-padded.true), w.if-field-gt1.false))
    ]

pub returns-else-padded : goal.returns-else-padded
returns-else-padded c =
    c.value.ensures
    ∙ number_value _ _ (eqb-false _ 0 (sym c.is_empty.ensures ∙ c.if-is_empty.false))
    (λ h z. elim c.if-field-gt1.branch [
      | then-field-gt1 w ↦ eqb-false _ 48 (sym w.padded-is ∙ c.if-padded.false) z
      | else-field-gt1 w ↦ omega arith
    ])
