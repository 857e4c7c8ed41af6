-- The table's words, rows and start marks are those that were put in order.
use Rattle.code.specs.Definitions.Tables.{no_word}
use Rattle.renumbering.specs.Reordering.{renumbered_parts}
use Rattle.renumbering.proofs.renumber.Goals as goal

pub returns : goal.returns
returns c = renumbered_parts _ _ _ (c.reorder_entries.ensures no_word) c.reorder_rows.ensures (c.reorder_entries-2.ensures 0)
