-- What closes the entries, and the letter with a line end.
use Rattle.writing.specs.Puts.{puts_then}
use Rattle.turkish_matrix.proofs.put_end.Goals as goal

pub returns : goal.returns
returns c = search puts_then
