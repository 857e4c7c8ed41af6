-- `word_fits` says exactly whether a word fits: its length is tested, and its symbols, in the cases that it is past the count, too long, or neither.
use Rattle.std.proofs.Common.{◌≡◌, arith, rules, length}
use Rattle.code.specs.Definitions.Sheets.{limits}
use Rattle.well_formed.proofs.Laws.Tested.{word_unused, word_used}
use Rattle.well_formed.proofs.word_fits.Goals as goal

pub returns-then-w-eq0 : goal.returns-then-w-eq0
returns-then-w-eq0 c =
    let args = c.args in
    let array : length args.w.symbols ≡ limits.symbols = search rules in
    word_unused limits args.n args.k args.w array c.if-n-k.true c.if-w-eq0.true (rw c.greatest_symbols-none.ensures at c.at_most.ensures)

pub returns-then-w-ge1 : goal.returns-then-w-ge1
returns-then-w-ge1 c =
    let args = c.args in
    let array : length args.w.symbols ≡ limits.symbols = search rules in
    word_used limits args.n args.k args.w array c.if-n-k.false c.if-w-ge1.true (omega arith)
    (rw c.greatest_symbols-most.ensures at c.at_most-then-w-ge1.ensures)
