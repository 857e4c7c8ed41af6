-- The class sheet is refused, or the text is split by the code and the classes.
use Rattle.std.specs.Prelude.{refl}
use Rattle.std.proofs.lemmas.Result.{err_from_is_err_and}
use Rattle.syllabify.proofs.Laws.Ways.{classes_next, splits_given}
use Rattle.syllabify.proofs.split_by.Goals as goal

pub returns-in_err-letters : goal.returns-in_err-letters
returns-in_err-letters c =
    let p = err_from_is_err_and c.from_residual.result c.from_residual.ensures.1 in
    rw (p.1, p.2) (classes_next refl c.in_err-letters.was)

pub returns : goal.returns
returns c =
    let accepted = c.in_ok-letters.was in
    splits_given refl accepted c.requires.0 (c.requires.1 accepted) _ _ _ _ _ _ c.requires.2 refl refl refl refl (rw c.plain-value.ensures at c.split-split.ensures)
