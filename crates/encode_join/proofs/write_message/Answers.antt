use Rattle.std.proofs.Common.{◌∙◌, arith}
use Rattle.code.specs.Definitions.Sheets.{limits}
use Rattle.encode_join.specs.Passes.{known_short, length_more, write_room, write_more}
use Rattle.encode_join.proofs.write_message.Goals as goal

pub write_word-at-requires : goal.write_word-at-requires
write_word-at-requires c =
    let l = c.loop-x in
    let pre = c.requires in
    rw c.from.ensures (known_short limits pre.0 l.x-index c.loop-x-test.true, write_room limits pre.0 l.x-index l.at _ c.loop-x-test.true l.invariant.0 (omega arith))

pub loop-x-preserved : goal.loop-x-preserved
loop-x-preserved c =
    let l = c.loop-x in
    let pre = c.requires in
    let w = rw c.from.ensures at c.write_word-at.ensures in (
      w.0 ∙ length_more limits pre.0 l.x-index l.at c.loop-x-test.true l.invariant.0,
      write_more limits pre.0 l.x-index l.at _ l.message _ c.loop-x-test.true l.invariant.0 l.invariant.1 w.1,
    )
