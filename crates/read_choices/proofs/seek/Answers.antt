use Prim.Native.Nat.{◌+◌, ◌<◌}
use mathlib.Core.Path.{sym, ◌∙◌}
use native.Mathlib.Omega.{arith}
use Rattle.bits.specs.Lowest.{lowest_below, left_above}
use Rattle.read_choices.specs.Choices.{none_more, usable_lowest, none_lowest, none_left}
use Rattle.read_choices.proofs.seek.Goals as goal
use Rattle.read_choices.proofs.seek.Goals.{After-lowest-skipped}

-- The word found is one of the n.
below : (c : After-lowest-skipped) → c.loop-left.x + c.lowest-skipped.result < c.args.n
below c =
    let l = c.loop-left in
    lowest_below _ l.x l.invariant.1 c.lowest-skipped.ensures c.requires.0.bound

pub overflow_add-x : goal.overflow_add-x
overflow_add-x c = omega (arith, below c, c.requires.0.small)

pub offset_bounds-rows-x : goal.offset_bounds-rows-x
offset_bounds-rows-x c = omega (arith, below c, c.requires.0.small)

pub bounds-rows-x : goal.bounds-rows-x
bounds-rows-x c = omega (arith, below (goal.at.bounds-rows-x c).After-lowest-skipped, c.requires.0.rowed)

pub returns-then-has : goal.returns-then-has
returns-then-has c =
    let a = c.args in
    let l = c.loop-left in
    let f = c.lowest-skipped.ensures in
    record {
      low = omega (arith, l.invariant.0);
      known = below (goal.at.returns-then-has c).After-lowest-skipped;
      is = usable_lowest a.work.now a.rows.now a.pos l.x _ _ l.invariant.1 f a.y ∙ sym c.has.ensures ∙ c.if-has.true;
      none = none_lowest a.work.now a.rows.now a.pos l.x _ _ l.invariant.1 f a.y a.from l.invariant.2;
    }

pub overflow_add-x-in-loop-left : goal.overflow_add-x-in-loop-left
overflow_add-x-in-loop-left c = omega (arith, below (goal.at.overflow_add-x-in-loop-left c).After-lowest-skipped, c.requires.0.small)

pub loop-left-preserved : goal.loop-left-preserved
loop-left-preserved c =
    let a = c.args in
    let l = c.loop-left in
    let f = c.lowest-skipped.ensures in
    let off = usable_lowest a.work.now a.rows.now a.pos l.x _ _ l.invariant.1 f a.y ∙ sym c.has.ensures ∙ c.if-has.false in
    let none = none_lowest a.work.now a.rows.now a.pos l.x _ _ l.invariant.1 f a.y a.from l.invariant.2 in
    (omega (arith, l.invariant.0), left_above _ l.x l.invariant.1 f, none_more _ _ _ _ _ _ none off)

pub returns : goal.returns
returns c =
    let a = c.args in
    let l = c.loop-left in
    none_left a.work.now a.rows.now a.pos l.x l.left l.invariant.1 a.y a.n a.from l.invariant.2 (omega arith)
