use borrow.Author.Rules.{rules}
use native.Mathlib.Omega.{arith}
use Rattle.renumbering.specs.Origins.{number_room, number_listed, copy_passed}
use Rattle.renumbering.proofs.origins.list_copies.Goals as goal
use Rattle.renumbering.proofs.origins.list_copies.Goals.{then-origins-x, else-origins-x}

pub bounds-numbers-end : goal.bounds-numbers-end
bounds-numbers-end c =
    let room = number_room c.requires.0 _ _ c.loop-x.invariant (search rules) c.if-origins-x.true in
    omega (arith, c.requires.0.most)

pub overflow_add-end : goal.overflow_add-end
overflow_add-end c =
    let room = number_room c.requires.0 _ _ c.loop-x.invariant (search rules) c.if-origins-x.true in
    omega (arith, c.requires.0.most)

pub loop-x-preserved : goal.loop-x-preserved
loop-x-preserved c =
    let l = c.loop-x in
    elim c.if-origins-x.branch [
      | then-origins-x w ↦ rw (w.numbers-is, w.end-is) (number_listed c.requires.0 c.args.z l.x l.invariant (search rules) w.if-origins-x.true)
      | else-origins-x w ↦ rw (w.numbers-is, w.end-is) (copy_passed c.requires.0 c.args.z l.x l.invariant (search rules) w.if-origins-x.false)
    ]
