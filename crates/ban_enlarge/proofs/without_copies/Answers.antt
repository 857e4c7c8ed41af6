-- `without_copies` says exactly whether a well-enlarged value has originals alone: those are the tables without copies.
use native.Mathlib.Omega.{arith}
use Rattle.well_enlarged.specs.Listed.{limits_lists}
use Rattle.ban_enlarge.proofs.Laws.Without.{tested_all, tested_not}
use Rattle.ban_enlarge.proofs.without_copies.Goals as goal

pub returns-then-well_enlarged : goal.returns-then-well_enlarged
returns-then-well_enlarged c = tested_all (omega arith) c.well_enlarged.ensures c.if-well_enlarged.true

pub returns-else-well_enlarged : goal.returns-else-well_enlarged
returns-else-well_enlarged c = rw c.if-well_enlarged.false (tested_not (omega arith) limits_lists c.well_enlarged.ensures c.if-well_enlarged.false)
