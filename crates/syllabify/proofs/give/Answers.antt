-- The sheet is taken in where one is named; else the code is the built-in one.
use Rattle.syllabify.proofs.Laws.Ways.{given_named, given_built_in}
use Rattle.syllabify.proofs.give.Goals as goal

pub returns-then-named : goal.returns-then-named
returns-then-named c = let a = c.args in given_named a.named a.sheet.now c.if-named.true c.take_in.ensures

pub returns : goal.returns
returns c = let a = c.args in given_built_in a.named a.sheet.now c.if-named.false c.twelve-code.ensures
