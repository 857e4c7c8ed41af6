-- `row_fits` says exactly whether a row fits: it is held to the greatest entries of a row in use, or past the count to those of a code of no words.
use mathlib.Core.Path.{◌≡◌}
use native.Mathlib.Omega.{arith}
use lib.ListN.{length}
use borrow.Author.Rules.{rules}
use Rattle.code.specs.Definitions.Sheets.{limits}
use Rattle.well_formed.proofs.Laws.Tested.{row_used, row_unused}
use Rattle.well_formed.proofs.row_fits.Goals as goal

pub at_most-requires : goal.at_most-requires
at_most-requires c =
    let args = c.args in
    let array : length args.row.entries ≡ limits.words = search rules in
    let most : length args.most.now ≡ limits.words = search rules in
    omega arith

pub at_most-requires-else-x-n : goal.at_most-requires-else-x-n
at_most-requires-else-x-n c =
    let array : length c.args.row.entries ≡ limits.words = search rules in
    omega arith

pub returns-then-x-n : goal.returns-then-x-n
returns-then-x-n c =
    let array : length c.args.row.entries ≡ limits.words = search rules in
    row_used limits c.args.n c.args.x c.args.row array c.if-x-n.true (rw c.requires at c.at_most.ensures)

pub returns-else-x-n : goal.returns-else-x-n
returns-else-x-n c =
    let args = c.args in
    let array : length args.row.entries ≡ limits.words = search rules in
    row_unused limits args.n args.x args.row array c.if-x-n.false (rw c.greatest_entries-none.ensures at c.at_most-else-x-n.ensures)
