-- `next_word` meets its contract: a lemma for each refusal that changes nothing, in their order, and for what is told with the working buffer cleared.
use native.Mathlib.Omega.{arith}
use Rattle.well_enlarged.specs.Listed.{from_lists}
use Rattle.next_word.proofs.Laws.Ways.{way_8, from_tested, way_11, way_13, way_told}
use Rattle.next_word.proofs.next_word.Goals as goal

pub returns-then-not-well_enlarged : goal.returns-then-not-well_enlarged
returns-then-not-well_enlarged c = way_8 c.args.message.now c.args.work.now c.well_enlarged.ensures c.if-not-well_enlarged.true

pub returns-then-message-gt-SYMBOLS : goal.returns-then-message-gt-SYMBOLS
returns-then-message-gt-SYMBOLS c =
    way_11 c.args.message.now c.args.work.now (from_tested c.well_enlarged.ensures c.if-not-well_enlarged.false) c.if-message-gt-SYMBOLS.true

pub returns-then-work-lt-MARKS : goal.returns-then-work-lt-MARKS
returns-then-work-lt-MARKS c =
    let given = from_tested c.well_enlarged.ensures c.if-not-well_enlarged.false in
    way_13 c.args.message.now c.args.work.now given c.if-message-gt-SYMBOLS.false c.if-work-lt-MARKS.true

pub foretell-r-requires : goal.foretell-r-requires
foretell-r-requires c =
    (from_lists (from_tested c.well_enlarged.ensures c.if-not-well_enlarged.false), omega arith)

pub returns : goal.returns
returns c =
    let given = from_tested c.well_enlarged.ensures c.if-not-well_enlarged.false in
    way_told c.args.message.now c.args.work.now given c.if-message-gt-SYMBOLS.false (omega arith) c.foretell-r.ensures (omega arith)
    (c.fill.ensures.after (λ y z. z))
