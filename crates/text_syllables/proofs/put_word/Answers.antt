-- A way for each kind of word: that there is room, and that what is written shows it.
use lib.Seq.{length-take-le}
use mathlib.Core.Path.{sym}
use Rattle.text_syllables.specs.Shown.{split_stands, split_needs, split_shown, bracket_room, none_shown, several_shown}
use Rattle.text_syllables.proofs.put_word.Goals as goal

pub slice_bounds-put_syllables-end : goal.slice_bounds-put_syllables-end
slice_bounds-put_syllables-end c =
    sym (length-take-le _ c.args.reading.now (split_stands c.requires.0 c.in-Split.is))

pub put_syllables-requires : goal.put_syllables-requires
put_syllables-requires c =
    split_needs c.requires.0 c.in-Split.is _ _ c.requires.1

pub put_bracketed-requires : goal.put_bracketed-requires
put_bracketed-requires c =
    bracket_room c.requires.0 _ _ c.requires.1

pub put_bracketed-requires-in-Several : goal.put_bracketed-requires-in-Several
put_bracketed-requires-in-Several c =
    bracket_room c.requires.0 _ _ c.requires.1

pub returns-in-Split : goal.returns-in-Split
returns-in-Split c =
    split_shown c.requires.0 c.in-Split.is c.put_syllables.ensures

pub returns-in-None : goal.returns-in-None
returns-in-None c =
    none_shown c.requires.0 c.in-None.is c.put_bracketed.ensures

pub returns-in-Several : goal.returns-in-Several
returns-in-Several c =
    several_shown c.requires.0 c.in-Several.is c.put_bracketed-in-Several.ensures
