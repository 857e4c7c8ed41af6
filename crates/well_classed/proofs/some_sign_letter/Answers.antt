-- `some_sign_letter` looks at each of the signs.
use mathlib.Core.Path.{◌∙◌}
use borrow.Author.Rules.{rules}
use borrow.Author.Tests.{tests}
use Rattle.std.proofs.lemmas.Iterator.{YieldsList-from_slice}
use Rattle.std.proofs.lemmas.Iterator.Search.{any_from_yields_List}
use Rattle.code.specs.Definitions.Texts.{is_letter, signs}
use Rattle.class_sheet.proofs.Laws.Signs.{signs_tested}
use Rattle.well_classed.proofs.some_sign_letter.Goals as goal

pub returns : goal.returns
returns c =
    let p = is_letter c.args.classes.now in
    any_from_yields_List p _ _ c.any.result c.any.ensures.ran (YieldsList-from_slice signs c.iter.ensures.rest) (λ x b q k. search (rules, tests)) ∙ signs_tested p
