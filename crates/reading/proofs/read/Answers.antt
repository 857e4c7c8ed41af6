-- `read` meets its contract: a lemma for each refusal, in their order, and for what is found where none holds.
use native.Mathlib.Omega.{arith}
use Rattle.well_enlarged.specs.Listed.{from_lists}
use Rattle.reading.specs.Public.{not_short, refuse_table, refuse_length, refuse_symbol, refuse_buffer, finds_reads}
use Rattle.reading.proofs.read.Goals as goal

pub returns-then-not-well_enlarged : goal.returns-then-not-well_enlarged
returns-then-not-well_enlarged c = refuse_table (c.well_enlarged.ensures.no c.if-not-well_enlarged.true)

pub returns-then-message-gt-SYMBOLS : goal.returns-then-message-gt-SYMBOLS
returns-then-message-gt-SYMBOLS c = refuse_length (c.well_enlarged.ensures.yes c.if-not-well_enlarged.false) c.if-message-gt-SYMBOLS.true

pub returns-then-has_high : goal.returns-then-has_high
returns-then-has_high c =
    refuse_symbol (c.well_enlarged.ensures.yes c.if-not-well_enlarged.false) c.if-message-gt-SYMBOLS.false (c.has_high.ensures.yes c.if-has_high.true)

pub returns-then-is_short : goal.returns-then-is_short
returns-then-is_short c =
    refuse_buffer (c.well_enlarged.ensures.yes c.if-not-well_enlarged.false) c.if-message-gt-SYMBOLS.false
    (c.has_high.ensures.no c.if-has_high.false) (c.is_short.ensures.yes c.if-is_short.true)

pub find_named-found-requires : goal.find_named-found-requires
find_named-found-requires c =
    let room = not_short (c.is_short.ensures.no c.if-is_short.false) in
    (from_lists (c.well_enlarged.ensures.yes c.if-not-well_enlarged.false), omega arith, room.0, room.1, room.2)

pub returns : goal.returns
returns c =
    rw c.ok_or.ensures.value
    (finds_reads (c.well_enlarged.ensures.yes c.if-not-well_enlarged.false) c.if-message-gt-SYMBOLS.false
    (c.has_high.ensures.no c.if-has_high.false) (c.is_short.ensures.no c.if-is_short.false) c.find_named-found.ensures)
