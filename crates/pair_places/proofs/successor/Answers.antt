-- `pair_places::successor` meets its contract: within the pair's slots it is the pair of the two places led to, past them nowhere.
use native.Mathlib.Omega.{arith}
use Rattle.pair_places.specs.Onward.{arc_within, arc_past}
use Rattle.pair_places.proofs.successor.Goals as goal

pub returns-then-slot-slots : goal.returns-then-slot-slots
returns-then-slot-slots c =
    let a = c.args in
    rw (arc_within a.places.now a.p a.q a.slot (omega arith), ← c.onward.ensures.0, ← c.onward-then-slot-slots.ensures.0) c.pair_of.ensures

pub returns-else-slot-slots : goal.returns-else-slot-slots
returns-else-slot-slots c =
    let a = c.args in
    rw (arc_past a.places.now a.p a.q a.slot (omega arith)) c.no_pair.ensures
