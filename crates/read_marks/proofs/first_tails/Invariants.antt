-- `first_tails` meets its contract. The loop's invariant: the tails from `j` on are laid, and `longer` is that of `j`.
use Prim.Native.Nat.{◌≤◌}
use Rattle.read_marks.specs.Begun.{TailsFrom}
use Rattle.read_marks.proofs.first_tails.Given as goal

abbrev pub invariant-loop-j : goal.invariant-loop-j
invariant-loop-j l = (1 ≤ l.j) × TailsFrom l.ends l.longest l.tails l.j l.longer
