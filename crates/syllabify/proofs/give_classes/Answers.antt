-- The class sheet is taken in where one is named; else the classes are the built-in ones.
use Rattle.syllabify.proofs.Laws.Ways.{classes_named, classes_built_in}
use Rattle.syllabify.proofs.give_classes.Goals as goal

pub returns-then-lettered : goal.returns-then-lettered
returns-then-lettered c = let a = c.args in classes_named a.lettered a.sheet.now c.if-lettered.true c.take_classes.ensures

pub returns : goal.returns
returns c = let a = c.args in classes_built_in a.lettered a.sheet.now c.if-lettered.false c.turkish-letters.ensures
