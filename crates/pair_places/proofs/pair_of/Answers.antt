-- `pair_places::pair_of` meets its contract: each way out is a case of `pair_node`.
use native.Mathlib.Omega.{arith}
use Rattle.pair_places.specs.Steps.{nowhere, no_pair_lem}
use Rattle.pair_places.proofs.pair_of.Goals as goal
use Rattle.pair_places.proofs.pair_of.Goals.{else-p-count-via-then-p-count+then-q-count+else-places-p, else-p-count-via-then-p-count+else-q-count, else-p-count-via-else-p-count}

pub returns-else-p-count : goal.returns-else-p-count
returns-else-p-count c =
    let n = c.place_count-count.ensures in
    let a = c.args in
    nowhere a.places.now c.requires.0.some n (no_pair_lem a.places.now a.p a.q (λ l m e.
    elim c.else-p-count.branch [
      | else-p-count-via-then-p-count+then-q-count+else-places-p w ↦ w.if-places-p.false e
      | else-p-count-via-then-p-count+else-q-count w ↦ omega (arith, n, w.if-q-count.false)
      | else-p-count-via-else-p-count w ↦ omega (arith, n, w.if-p-count.false)
    ]))
