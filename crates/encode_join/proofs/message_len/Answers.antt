use Rattle.std.proofs.Common.{arith}
use Rattle.code.specs.Definitions.Sheets.{limits}
use Rattle.encode_join.specs.Passes.{length_more, length_over}
use Rattle.encode_join.proofs.message_len.Goals as goal

pub returns-then-sum-gt-SYMBOLS : goal.returns-then-sum-gt-SYMBOLS
returns-then-sum-gt-SYMBOLS c =
    let l = c.loop-x in
    length_over limits c.requires l.x-index l.sum c.loop-x-test.true l.invariant.0 (rw c.from.ensures at c.if-sum-gt-SYMBOLS.true)

pub loop-x-preserved : goal.loop-x-preserved
loop-x-preserved c =
    let l = c.loop-x in
    (rw c.from.ensures (length_more limits c.requires l.x-index l.sum c.loop-x-test.true l.invariant.0), omega arith)
