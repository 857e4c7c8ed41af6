-- `pair_places::lay_word` meets its contract: its two stores and three calls are the five runs of a word.
use native.Mathlib.Omega.{arith}
use lib.ListN.{length-set}
use Rattle.pair_places.specs.Words.{word_laid}
use Rattle.pair_places.specs.Writes.{written_copy, written_one}
use Rattle.pair_places.proofs.lay_word.Goals as goal

pub returns : goal.returns
returns c =
    word_laid c.args.at c.args.x c.args.word c.args.row c.requires
    (written_copy c.args.word.symbols c.copy_at.ensures (omega arith) (omega arith))
    c.fill.ensures
    (written_one _ _ _ (omega arith))
    (written_one _ _ _ (simp length-set (omega arith)))
    (written_copy c.args.row.entries c.copy_at-2.ensures (simp length-set (omega arith)) (omega arith))
