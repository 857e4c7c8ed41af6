-- The code and the classes are given, the text split by them, and what is found printed.
use Rattle.syllabify.proofs.Laws.Ways.{given_sheet, given_classes, given_answers}
use Rattle.syllabify.proofs.answer.Goals as goal

pub split_given-s-requires : goal.split_given-s-requires
split_given-s-requires c =
    let a = c.args in
    (given_sheet a.named a.sheet.now c.give-given.ensures, given_classes a.lettered a.classes.now c.give_classes-letters.ensures, c.requires)

pub returns : goal.returns
returns c =
    let a = c.args in
    given_answers a.named a.sheet.now a.lettered a.classes.now c.give-given.ensures c.give_classes-letters.ensures
    c.split_given-s.ensures c.put_splitting.ensures
