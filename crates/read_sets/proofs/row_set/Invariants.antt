-- `row_set` meets its contract. The loop's invariant: the set has the start, if its mark is 1, and what the row has of the first `y` words.
use Rattle.read_sets.specs.Rows.{RowSet}
use Rattle.read_sets.proofs.row_set.Given as goal

abbrev pub invariant-loop-y : goal.invariant-loop-y
invariant-loop-y l = RowSet l.row l.start l.n l.y l.set
