-- What stands before the entries, the entries, and what ends the line.
use Rattle.turkish_matrix.proofs.Laws.Printing.{second_fits, third_fits, three_put}
use borrow.Author.Rules.{rules}
use Rattle.turkish_matrix.proofs.put_line.Goals as goal

pub put_numbers-end-requires : goal.put_numbers-end-requires
put_numbers-end-requires c = search second_fits

pub put_end-requires : goal.put_end-requires
put_end-requires c = (search rules, search third_fits)

pub returns : goal.returns
returns c = search three_put
