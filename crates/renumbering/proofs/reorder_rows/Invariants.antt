-- The loop puts the rows in order from the front; what stays are rows of zeros.
use Rattle.code.specs.Definitions.Sheets.{limits}
use Rattle.renumbering.specs.Reordering.{Filled, row_from}
use Rattle.renumbering.proofs.reorder_rows.Given as goal

abbrev pub invariant-loop-i : goal.invariant-loop-i
invariant-loop-i l = Filled (row_from limits l.old l.n l.rows) l.n l.rows l.next l.i
