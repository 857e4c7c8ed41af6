-- `well_formed` says exactly whether an accepted sheet gives the table: its tests say exactly whether the table is well-formed, and that is the same.
use mathlib.Core.Path.{◌≡◌}
use native.Mathlib.Omega.{arith}
use lib.ListN.{length}
use borrow.Author.Rules.{rules}
use Rattle.code.specs.Definitions.Sheets.{limits}
use Rattle.code.specs.Laws.Exactly.{exactly_iff}
use Rattle.well_formed.proofs.Laws.Tested.{table_tested}
use Rattle.well_formed.specs.Round.{well_formed_lem}
use Rattle.well_formed.proofs.well_formed.Goals as goal

pub at_most-requires : goal.at_most-requires
at_most-requires c =
    let array : length c.args.code.begins ≡ limits.words = search rules in
    omega arith

pub records_fit-requires : goal.records_fit-requires
records_fit-requires c = c.greatest_entries-most.ensures

pub returns : goal.returns
returns c =
    let code = c.args.code in
    -- the type of the parameter says how long its arrays are
    let words : length code.words ≡ 32 = c.well_formed.0.1.1.0.1.0.1 in
    let rows : length code.rows ≡ 32 = c.well_formed.0.1.1.1.0.1.0.1 in
    let begins : length code.begins ≡ 32 = search rules in
    let marks = rw c.greatest_entries-most.ensures at c.at_most.ensures in
    exactly_iff (well_formed_lem (omega arith)) (table_tested limits code words rows begins marks c.records_fit.ensures c.total_fits.ensures)
