use mathlib.Core.Path.{◌≡◌, refl, ◌∙◌}
use native.Mathlib.Omega.{arith}
use Rattle.code.specs.Definitions.Lists.{tabulate, sum}
use Rattle.well_formed.proofs.Laws.Tested.{room_more, room_left}
use Rattle.well_formed.proofs.total_fits.Goals as goal

pub loop-word-init : goal.loop-word-init
unfolding tabulate sum
loop-word-init c = refl

pub loop-word-preserved : goal.loop-word-preserved
loop-word-preserved c = let l = c.loop-word in c.saturating_sub-room.ensures ∙ room_more c.args.code 128 l.word-index l.room l.invariant

pub returns : goal.returns
returns c =
    let l = c.loop-word in
    let end : l.word-index ≡ 32 = omega arith in
    rw end at (room_left c.args.code 128 l.word-index l.room l.invariant)
