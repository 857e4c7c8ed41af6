use mathlib.Core.Path.{refl}
use mathlib.Core.List.{flat_map}
use native.Mathlib.Omega.{arith}
use Rattle.c_image.specs.Packing.{rows_next}
use Rattle.c_image.proofs.put_rows.Goals as goal

pub loop-k-init : goal.loop-k-init
unfolding flat_map
loop-k-init c = (refl, refl)

pub loop-k-preserved : goal.loop-k-preserved
loop-k-preserved c =
    let l = c.loop-k in
    let fits = c.requires.0 in
    (omega arith, rows_next fits _ l.table _ l.k (omega arith) (omega arith) l.invariant.1 c.copy_at.ensures)
