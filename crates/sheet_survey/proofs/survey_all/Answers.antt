use borrow.Author.Rules.{rules}
use native.Mathlib.Omega.{arith}
use Rattle.sheet_survey.specs.Passing.{passed_first, passing_on, passed_end}
use Rattle.sheet_survey.proofs.survey_all.Goals as goal

pub loop-c-init : goal.loop-c-init
loop-c-init c = passed_first _ _ c.default-c.ensures c.requires.0

pub next_field-c-requires : goal.next_field-c-requires
next_field-c-requires c = let p = c.loop-c.invariant in (p.clean (search rules), search rules, search rules, p.bounded)

pub loop-c-preserved : goal.loop-c-preserved
loop-c-preserved c = passing_on c.loop-c.invariant c.next_field-c.ensures

pub returns : goal.returns
returns c = let p = c.loop-c.invariant in (passed_end p (omega arith), omega (arith, p.bounded.records))
