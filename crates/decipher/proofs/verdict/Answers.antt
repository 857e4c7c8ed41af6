-- `verdict` meets its contract: a lemma for each refusal, in their order, and for the verdict where none holds.
use Rattle.well_enlarged.specs.Listed.{from_lists}
use Rattle.decipher.specs.Buffers.{has_room}
use Rattle.decipher.proofs.Laws.Ways.{way_8, way_13, way_judged}
use Rattle.decipher.proofs.verdict.Goals as goal

pub returns-then-not-well_enlarged : goal.returns-then-not-well_enlarged
returns-then-not-well_enlarged c = search way_8

pub returns-then-is_short : goal.returns-then-is_short
returns-then-is_short c = search way_13

pub decide-requires : goal.decide-requires
decide-requires c =
    (from_lists (c.well_enlarged.ensures.yes c.if-not-well_enlarged.false), has_room (c.is_short.ensures.no c.if-is_short.false))

pub returns : goal.returns
returns c = search way_judged
