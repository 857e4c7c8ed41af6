-- `tell` meets its contract: the message goes on past the first symbols, or ends before, or no symbol is looked at.
use native.Mathlib.Omega.{arith}
use Rattle.code.specs.Definitions.Tables.{table_of}
use Rattle.code.specs.Laws.Words.{size-count}
use Rattle.next_word.proofs.Laws.Telling.{told_cut, told_whole, told_first}
use Rattle.next_word.proofs.telling.tell.Goals as goal

pub returns-then-n-eq0 : goal.returns-then-n-eq0
returns-then-n-eq0 c =
    told_first (table_of c.args.code) c.args.n c.args.message.now _ _ (size-count c.requires.0) (omega arith) c.first_beginning.ensures

pub returns-then-n-message : goal.returns-then-n-message
returns-then-n-message c =
    told_cut (table_of c.args.code) c.args.n c.args.message.now _ _ (omega arith) c.first_word.ensures

pub returns : goal.returns
returns c =
    told_whole (table_of c.args.code) c.args.n c.args.message.now _ _ (omega arith) c.first_word-2.ensures
