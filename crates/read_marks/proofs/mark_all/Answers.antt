use Prim.Native.Nat.{◌-◌}
use lib.ListN.{length-set}
use mathlib.Core.Path.{◌≡◌, ◌∙◌}
use native.Mathlib.Omega.{arith}
use Rattle.read_marks.specs.Marks.{symbol_block, marks_none, marks_more, marks_all}
use Rattle.read_marks.proofs.mark_all.Goals as goal

pub loop-pos-init : goal.loop-pos-init
loop-pos-init c = marks_none c.args.work.now c.first_tails.ensures.0 c.requires.1

pub loop-pos-preserved : goal.loop-pos-preserved
loop-pos-preserved c =
    let l = c.loop-pos in
    let a = c.args in
    let s = rw c.block_of-block.ensures at c.step.ensures in
    let block = symbol_block a.having.now a.cut a.message.now a.longest (l.pos - 1) (omega arith) in
    marks_more c.loop-pos-test.true (omega arith) (l.auto.work ∙ simp length-set c.requires.1) l.invariant block s c.union_of-onward.ensures

pub returns : goal.returns
returns c =
    let l = c.loop-pos in
    let e : l.pos ≡ 0 = omega arith in
    marks_all (rw e at l.invariant)
