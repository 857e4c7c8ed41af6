use native.Mathlib.Omega.{arith}
use borrow.Author.Rules.{rules}
use Rattle.class_sheet.proofs.Laws.Passing.{passing_starts, passing_wrong, passing_sign, passing_on, passing_ends}
use Rattle.class_sheet.proofs.take_records.Goals as goal
use Rattle.class_sheet.proofs.take_records.Goals.{in_default-via-in-Some+else-not-takes_sign, in_default-via-in_default}

pub loop-at-init : goal.loop-at-init
loop-at-init c = search passing_starts

pub returns-in_default : goal.returns-in_default
returns-in_default c =
    elim c.in_default.branch [
      | in_default-via-in-Some+else-not-takes_sign w ↦ passing_sign c.loop-at.invariant (omega arith) w.in-Some.ensures w.takes_sign.ensures (search rules) c.judge.ensures
      | in_default-via-in_default w ↦ passing_wrong c.loop-at.invariant (omega arith) (search rules) c.judge.ensures
    ]

pub loop-at-preserved : goal.loop-at-preserved
loop-at-preserved c = passing_on c.loop-at.invariant (omega arith) c.in-Some.ensures c.takes_sign.ensures (search rules) c.fill-twice.ensures

pub returns : goal.returns
returns c = passing_ends c.loop-at.invariant (omega arith) c.judge-2.ensures
