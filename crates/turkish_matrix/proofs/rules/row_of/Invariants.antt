-- The loop fills the row from the front, an entry for each word of the constant.
use lib.ListN.{length}
use Rattle.turkish.specs.Types.{types}
use Rattle.turkish.proofs.Laws.Padding.{Padding}
use Rattle.turkish_matrix.proofs.Laws.Rows.{entries_of}
use Rattle.turkish_matrix.proofs.rules.row_of.Given as goal

abbrev pub invariant-loop-y : goal.invariant-loop-y
invariant-loop-y l = Padding 0 (entries_of l.fn.x) (length types) l.y l.row
