-- `step` meets its contract. The loop's invariant: the sets from `j` on are stepped, and `above` is what set `j` was.
use Rattle.read_marks.specs.Steps.{SteppedFrom}
use Rattle.read_marks.proofs.step.Given as goal

abbrev pub invariant-loop-j : goal.invariant-loop-j
invariant-loop-j l = SteppedFrom l.having l.ends l.block l.onward l.longest l.initial.tails l.tails l.j l.above
