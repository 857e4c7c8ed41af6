-- The buffer has room for the printed table, and what is written is at its start.
use Rattle.printing.proofs.Laws.Starts.{starts_counts}
use Rattle.turkish_matrix.proofs.Laws.Lines.{printed_long}
use borrow.Author.Rules.{rules}
use Rattle.turkish_matrix.proofs.main.Goals as goal

pub print_table-length-requires : goal.print_table-length-requires
print_table-length-requires c = search (rules, printed_long)

pub slice_bounds-out-end : goal.slice_bounds-out-end
slice_bounds-out-end c = (starts_counts c.print_table-length.ensures).0
