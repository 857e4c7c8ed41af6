-- `first_word` meets its contract: the lists that are made zero become the code's sets, and the marks get as much of the working buffer as there are positions.
use mathlib.Core.Path.{refl, sym}
use native.Mathlib.Omega.{arith}
use lib.Seq.{length-take-le}
use Rattle.next_word.proofs.Laws.Telling.{picked_laid}
use Rattle.next_word.proofs.telling.first_word.Goals as goal

pub lay-longest-requires : goal.lay-longest-requires
lay-longest-requires c =
    (c.requires.0, refl, refl, refl, omega arith)

pub slice_bounds-find_word-end-6 : goal.slice_bounds-find_word-end-6
slice_bounds-find_word-end-6 c = sym (length-take-le _ _ (omega arith))

pub find_word-requires : goal.find_word-requires
find_word-requires c =
    (c.lay-longest.ensures.sets, length-take-le _ _ (omega arith), c.requires.2)

pub returns : goal.returns
returns c =
    picked_laid c.lay-longest.ensures c.find_word.ensures
