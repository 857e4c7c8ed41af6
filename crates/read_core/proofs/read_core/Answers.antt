-- `read_core` meets its contract: full marks can be walked (`marked_walkable`), and what a walk over them finds is what the table has (`answer_finds`).
use lib.ListN.{length, drop_of_length-le}
use mathlib.Core.List.{append-nil}
use mathlib.Core.Path.{◌≡◌}
use native.Mathlib.Omega.{arith}
use Rattle.read_core.specs.Core.{marked_walkable, answer_finds}
use Rattle.read_core.proofs.read_core.Goals as goal

pub first_readings-r-requires : goal.first_readings-r-requires
first_readings-r-requires c =
    let p = c.requires in
    (marked_walkable c.args.message.now p.0 (omega arith) p.2 (c.mark_all.ensures.each _ _ p.0), p.3, p.4)

pub returns : goal.returns
returns c =
    let p = c.requires in
    let e : length c.mark_all.new.work ≡ length c.args.work.now = omega arith in
    record {
      finds = λ t l. answer_finds c.args.message.now l (c.mark_all.ensures.each _ _ p.0) c.first_readings-r.ensures;
      work =
          let clear = c.fill.ensures.after (λ y z. z) in
          grind (arith, drop_of_length-le, append-nil);
    }
