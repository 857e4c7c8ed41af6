-- The tests say exactly whether the classes are well-classed, and that is whether an accepted class sheet gives them.
use mathlib.Core.Path.{◌≡◌, refl}
use lib.ListN.{length}
use borrow.Author.Rules.{rules}
use Rattle.code.specs.Definitions.ClassSheets.{different_bytes}
use Rattle.code.specs.Laws.Exactly.{exactly_iff}
use Rattle.well_classed.proofs.Laws.Tested.{classes_tested}
use Rattle.well_classed.specs.Round.{well_classed_lem}
use Rattle.well_classed.proofs.well_classed.Goals as goal

pub returns-then-entries_fit : goal.returns-then-entries_fit
returns-then-entries_fit c =
    -- the type of the parameter says how long its array is
    let whole : length c.args.classes.entries ≡ different_bytes = search rules in
    exactly_iff well_classed_lem ((classes_tested whole c.entries_fit.ensures c.some_sign_letter.ensures).0 c.if-entries_fit.true)

pub returns-else-entries_fit : goal.returns-else-entries_fit
returns-else-entries_fit c =
    let whole : length c.args.classes.entries ≡ different_bytes = search rules in
    exactly_iff well_classed_lem ((classes_tested whole c.entries_fit.ensures refl).1 c.if-entries_fit.false)
