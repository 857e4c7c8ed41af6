-- `read_walks::copy_branch` meets its contract: one store behind the copied entries (`paste_other`).
use native.Mathlib.Omega.{arith}
use Rattle.read_walks.specs.Answers.{paste_other}
use Rattle.read_walks.proofs.copy_branch.Goals as goal

pub returns : goal.returns
returns c =
    let a = c.args in
    rw c.copy_at.ensures (paste_other a.second.now a.first.now a.at a.other (omega arith) (omega arith))
