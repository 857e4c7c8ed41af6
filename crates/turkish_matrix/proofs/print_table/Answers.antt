-- What opens the table, its lines, and what closes it.
use Rattle.turkish_matrix.proofs.Laws.Lines.{opening_fits, lines_fit, closing_fits, table_put}
use Rattle.turkish_matrix.proofs.print_table.Goals as goal

pub put-first-requires : goal.put-first-requires
put-first-requires c = search opening_fits

pub put_lines-end-requires : goal.put_lines-end-requires
put_lines-end-requires c = search lines_fit

pub put-requires : goal.put-requires
put-requires c = search closing_fits

pub returns : goal.returns
returns c = search table_put
