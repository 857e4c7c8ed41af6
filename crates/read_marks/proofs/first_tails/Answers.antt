use Prim.Native.Nat.{◌+◌}
use lib.ListN.{length}
use mathlib.Core.Path.{◌≡◌, refl, ◌∙◌}
use native.Mathlib.Omega.{arith}
use Rattle.code.specs.Definitions.Sheets.{limits}
use Rattle.read_marks.specs.Begun.{tails_none, tails_more, first_none}
use Rattle.read_marks.proofs.first_tails.Goals as goal

pub loop-j-init : goal.loop-j-init
loop-j-init c =
    let p = c.requires in
    (p.1, rw p.0 (tails_none c.args.ends.now c.args.longest (limits.symbols + 1)))

pub loop-j-preserved : goal.loop-j-preserved
loop-j-preserved c =
    let l = c.loop-j in
    let long : length l.tails ≡ limits.symbols + 1 = l.auto.tails ∙ rw c.requires.0 refl in
    (omega arith, tails_more l.invariant.1 (omega arith) (omega arith) (omega arith))

pub returns-else-cut : goal.returns-else-cut
returns-else-cut c =
    rw (c.if-cut.false, c.requires.0) (first_none c.args.ends.now c.args.longest (limits.symbols + 1), refl)
