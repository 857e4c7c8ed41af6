-- `copied_well` says exactly whether the value is well-enlarged, with copies and without.
use Rattle.well_enlarged.proofs.Laws.Tested.{none_tested, value_tested}
use Rattle.well_enlarged.proofs.copied_well.Goals as goal

pub returns-then-e : goal.returns-then-e
returns-then-e c = let pre = c.requires in none_tested pre.1 pre.0 c.if-e.true

pub returns : goal.returns
returns c = let pre = c.requires in value_tested pre.1 pre.0 c.copies_fit.ensures c.matrix_fits.ensures
