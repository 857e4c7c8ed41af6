-- Each way out cites the lemma for it: the tests on the way say which refusals do not hold, and the last call writes the message.
use native.Mathlib.Omega.{arith}
use Rattle.code.specs.Definitions.Sheets.{limits}
use Rattle.encoding.proofs.Laws.Ways.{way_8, lists_well, way_9, all_original, all_known, way_10, way_11, way_13, way_encoded}
use Rattle.encoding.proofs.encode.Goals as goal

pub returns-then-not-well_enlarged : goal.returns-then-not-well_enlarged
returns-then-not-well_enlarged c = search (way_8 limits)

pub has_unknown-requires : goal.has_unknown-requires
has_unknown-requires c = search (lists_well limits)

pub returns-then-has_unknown : goal.returns-then-has_unknown
returns-then-has_unknown c = search (way_9 limits)

pub has_forbidden-requires : goal.has_forbidden-requires
has_forbidden-requires c = search (all_original limits)

pub returns-then-has_forbidden : goal.returns-then-has_forbidden
returns-then-has_forbidden c = search (way_10 limits)

pub message_len-n-requires : goal.message_len-n-requires
message_len-n-requires c = search (all_known limits)

pub returns-then-n-gt-SYMBOLS : goal.returns-then-n-gt-SYMBOLS
returns-then-n-gt-SYMBOLS c = search (way_11 limits)

pub returns-then-message-n : goal.returns-then-message-n
returns-then-message-n c = search (way_13 limits)

pub write_message-requires : goal.write_message-requires
write_message-requires c = (search (all_known limits), omega arith)

pub returns : goal.returns
returns c = search (way_encoded limits)
