-- `well_enlarged` tests whether the value is well-enlarged, of its code, of its numbers, and of the rest; a sheet and a list give just those values.
use Rattle.std.proofs.Common.{sym, ◌∙◌, arith}
use Rattle.well_formed.specs.Given.{well}
use Rattle.well_formed.specs.Round.{from_sheet}
use Rattle.well_enlarged.specs.Listed.{lists_tested}
use Rattle.well_enlarged.proofs.Laws.Tested.{not_code, not_numbered}
use Rattle.well_enlarged.proofs.well_enlarged.Goals as goal
use Rattle.well_enlarged.proofs.well_enlarged.Goals.{then-well_formed, else-well_formed}

pub numbered-requires : goal.numbered-requires
numbered-requires c = (well (c.well_formed-2.ensures.yes c.if-well_formed.true)).most

pub copied_well-requires : goal.copied_well-requires
copied_well-requires c =
    elim c.if-well_formed.branch [
      | then-well_formed w ↦ (well (c.well_formed-2.ensures.yes w.if-well_formed.true), w.numbered.ensures.yes (sym w.value-is ∙ c.if-numbered.true))
      | else-well_formed w ↦ absurd (cc)
    ]

pub returns-then-numbered : goal.returns-then-numbered
returns-then-numbered c = lists_tested c.copied_well.ensures

pub returns-else-numbered : goal.returns-else-numbered
returns-else-numbered c =
    rw c.if-numbered.false
    (elim c.if-well_formed.branch [
      | then-well_formed w ↦ lists_tested (not_numbered (w.numbered.ensures.no (sym w.value-is ∙ c.if-numbered.false)))
      | else-well_formed w ↦ lists_tested (not_code (λ v. c.well_formed-2.ensures.no w.if-well_formed.false (from_sheet (omega arith) v)))
    ])
