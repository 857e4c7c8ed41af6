-- `lay` meets its contract: all words and all rows laid are the code's sets (`laid_all`).
use Rattle.read_sets.specs.Laid.{laid_all}
use Rattle.read_sets.proofs.lay.Goals as goal

pub returns : goal.returns
returns c =
    laid_all c.requires.0 c.lay_words.ensures c.lay_rows.ensures
