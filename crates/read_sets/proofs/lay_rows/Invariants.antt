-- `lay_rows` meets its contract. The loop's invariant: the first `x` rows are sets.
use Rattle.read_sets.specs.Rows.{LaidRows}
use Rattle.read_sets.proofs.lay_rows.Given as goal

abbrev pub invariant-loop-x : goal.invariant-loop-x
invariant-loop-x l = LaidRows l.code l.x l.rows
