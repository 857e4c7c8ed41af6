-- `read_walks::least_reading` meets its contract. The loop's invariant is `Walking`; a step keeps it by `walking_on`. The measure is what is left of the message.
use Prim.Native.Nat.{◌-◌}
use Rattle.read_walks.specs.Shown.{shown}
use Rattle.read_walks.specs.Steps.{Walking}
use Rattle.read_walks.proofs.least_reading.Given as goal

abbrev pub invariant-loop-w : goal.invariant-loop-w
invariant-loop-w l = Walking (shown l.rows l.lengths l.work l.n l.end) l.n l.pos l.last l.from l.initial.out l.out l.w

abbrev pub decreases-loop-w : goal.decreases-loop-w
decreases-loop-w l = l.end - l.w.pos
