-- What was read stands within the buffer. Each turn brings a byte nearer to its end or takes one of the interruptions that are left.
use Rattle.std.proofs.Common.{length, ◌-◌, ◌+◌, ◌≡◌, ◌≤◌}
use Rattle.streams.specs.Inputs.{most_interruptions}
use Rattle.streams.proofs.read_input.Given as goal

abbrev pub invariant-loop-done : goal.invariant-loop-done
invariant-loop-done g l = (length l.bytes ≡ length l.initial.bytes) × (l.done ≤ length l.bytes) × (l.interruptions ≤ most_interruptions)

abbrev pub decreases-loop-done : goal.decreases-loop-done
decreases-loop-done g l = (length l.bytes - l.done) + (most_interruptions - l.interruptions)
