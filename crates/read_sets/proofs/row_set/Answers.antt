use native.Mathlib.Omega.{arith}
use Rattle.read_sets.specs.Rows.{row_none, row_more}
use Rattle.read_sets.proofs.row_set.Goals as goal

pub loop-y-init : goal.loop-y-init
loop-y-init c = rw c.from.ensures (row_none _ _ _ c.requires.1 (omega arith))

pub loop-y-preserved : goal.loop-y-preserved
loop-y-preserved c =
    let low = c.requires.0.below c.loop-y.y in
    row_more _ c.from-entry.ensures (omega arith) (omega arith) c.loop-y.invariant
