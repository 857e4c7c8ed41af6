-- An array with one value throughout is the table of that value.
use Rattle.code.specs.Definitions.Lists.{every, tabulate}
use Rattle.code.specs.Definitions.Sheets.{blank_code, code_of}
use Rattle.code.proofs.blanks.blank_code.Goals as goal

pub returns : goal.returns
unfolding blank_code code_of tabulate every
returns c = rw (c.blank_word-words.ensures, c.blank_row-rows.ensures)
