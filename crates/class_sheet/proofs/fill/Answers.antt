use native.Mathlib.Omega.{arith}
use Rattle.class_sheet.specs.Filling.{filling_starts, filling_on, filling_ends}
use Rattle.class_sheet.proofs.fill.Goals as goal

pub loop-b-init : goal.loop-b-init
loop-b-init c = (filling_starts c.args.range.lowest _ _ c.requires, omega arith)

pub loop-b-preserved : goal.loop-b-preserved
loop-b-preserved c = let l = c.loop-b in (filling_on c.args.range.lowest l.b l.invariant.0 (omega arith) (omega arith) c.give-twice.ensures, omega arith)

pub returns : goal.returns
returns c = let l = c.loop-b in filling_ends c.args.range.lowest c.args.range.highest l.b l.invariant.0 l.invariant.1 (omega arith)

pub returns-2 : goal.returns-2
returns-2 c =
    let l = c.loop-b in
    filling_ends c.args.range.lowest c.args.range.highest _
    (filling_on c.args.range.lowest l.b l.invariant.0 (omega arith) (omega arith) c.give-twice.ensures) (omega arith) (omega arith)
