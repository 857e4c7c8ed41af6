-- `split` meets its contract: a lemma for each refusal, in their order, and for the output where none holds.
use Rattle.text_split.proofs.Laws.Public.{zero_same, way_8, way_8_classes, way_11, way_13, split_rooms, way_split}
use Rattle.text_split.proofs.split.Goals as goal

pub returns-then-not-well_enlarged : goal.returns-then-not-well_enlarged
returns-then-not-well_enlarged c = search way_8

pub returns-then-not-well_classed : goal.returns-then-not-well_classed
returns-then-not-well_classed c = search way_8_classes

pub returns-then-text-gt-BYTES : goal.returns-then-text-gt-BYTES
returns-then-text-gt-BYTES c = search way_11

pub returns-then-short : goal.returns-then-short
returns-then-short c = search way_13

pub split_by-n-requires : goal.split_by-n-requires
split_by-n-requires c =
    split_rooms c.well_enlarged.ensures c.if-not-well_enlarged.false c.if-text-gt-BYTES.false c.is_short-short.ensures c.if-short.false

pub returns : goal.returns
returns c =
    let a = c.args in
    let zero = c.clear_all.ensures in
    way_split c.well_enlarged.ensures c.if-not-well_enlarged.false c.well_classed.ensures c.if-not-well_classed.false c.if-text-gt-BYTES.false
    c.is_short-short.ensures c.if-short.false c.split_by-n.ensures
    (zero_same a.message.now zero.0 c.message-1.given) (zero_same a.first.now zero.1 c.first-1.given)
    (zero_same a.second.now zero.2 c.second-1.given) (zero_same a.work.now zero.3 c.work-1.given)
