-- `find_word` meets its contract: the marks of the first position tell the words that open a reading, and the least that may begin is sought.
use native.Mathlib.Omega.{arith}
use Rattle.next_word.proofs.Laws.Telling.{marks_asked, sought_picked}
use Rattle.next_word.proofs.telling.find_word.Goals as goal

pub seek-requires : goal.seek-requires
seek-requires c =
    (marks_asked c.args.cut c.args.prefix.now c.requires.0 c.mark_all.ensures (omega arith) (omega arith), omega arith)

pub returns : goal.returns
returns c =
    sought_picked c.args.cut c.args.prefix.now c.requires.0 c.mark_all.ensures c.seek.result c.requires.2 c.seek.ensures
