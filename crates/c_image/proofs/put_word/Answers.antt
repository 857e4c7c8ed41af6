-- The length is stored behind the symbols, so both are one run of stores.
use borrow.Author.Rules.{rules}
use Rattle.c_image.specs.Packing.{word_stored}
use Rattle.c_image.proofs.put_word.Goals as goal

pub returns : goal.returns
returns c =
    let a = c.args in
    word_stored a.w a.table.now _ a.at (search rules) (search rules) c.copy_at.ensures
