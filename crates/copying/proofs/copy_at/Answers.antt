-- One turn more copies one entry more.
use Rattle.std.proofs.Common.{add-one, arith, length-set}
use Rattle.std.proofs.Math.Seq.{paste-suc}
use Rattle.copying.proofs.copy_at.Goals as goal

pub loop-i-preserved : goal.loop-i-preserved
loop-i-preserved c =
    let a = c.args in
    let l = c.loop-i in
    (simp length-set l.invariant.0, rw (l.invariant.1, add-one) (paste-suc a.to.now a.at a.from.now l.i 0 (omega arith) (omega arith)))
