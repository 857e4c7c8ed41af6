use Rattle.std.proofs.Common.{◌≡◌, ℕ, List, arith, rules}
use Rattle.read_marks.specs.Text.{Text}
use Rattle.read_walks.specs.declared.Walk.{Walk}
use Rattle.read_choices.specs.Choices.{LeastUsable}
use Rattle.read_walks.specs.Steps.{Walking, walking_end, some_sought, sought_taken, walking_on}
use Rattle.read_walks.proofs.least_reading.Goals as goal
use Rattle.read_walks.proofs.least_reading.Goals.{After-unwrap-x}

-- The word that is found first.
found : (c : After-unwrap-x)
    → LeastUsable c.args.work.now c.args.rows.now c.args.n c.loop-w.w.pos c.loop-w.w.last 0 c.unwrap-x.result
found c = rw c.unwrap-x.ensures at c.seek.ensures

pub unwrap-x-requires : goal.unwrap-x-requires
unwrap-x-requires c = some_sought c.requires.0 c.seek.result c.loop-w-test.true c.loop-w.invariant.can c.seek.ensures

pub seek-z-requires : goal.seek-z-requires
seek-z-requires c =
    let b = c.requires.0.bound c.loop-w.w.pos in
    let t = (found (goal.at.seek-z-requires c).After-unwrap-x).known in
    search rules

pub bounds-lengths-x : goal.bounds-lengths-x
bounds-lengths-x c =
    omega (arith, c.requires.0.shaped.sized, (found (goal.at.bounds-lengths-x c).After-unwrap-x).known)

pub advance-w-requires : goal.advance-w-requires
advance-w-requires c =
    let t = sought_taken c.requires.0 (found (goal.at.advance-w-requires c).After-unwrap-x) in
    (omega arith, omega (arith, t.near))

pub loop-w-smaller : goal.loop-w-smaller
loop-w-smaller c =
    let t = sought_taken c.requires.0 (found (goal.at.loop-w-smaller c).After-unwrap-x) in
    rw c.advance-w.ensures (omega (arith, t.some))

-- A step keeps the walk where what it writes is the word that it takes.
as_taken : {K : Text} {n p y k : ℕ} {old new new' : List ℕ} {w : Walk} → new' ≡ new → Walking K n p y k old new w → Walking K n p y k old new' w
as_taken e h = rw e h

pub loop-w-preserved : goal.loop-w-preserved
loop-w-preserved c =
    let f = found (goal.at.loop-w-preserved c).After-unwrap-x in
    rw c.advance-w.ensures (as_taken (cc) (walking_on c.requires.0 c.loop-w.invariant c.requires.5 f c.seek-z.result c.seek-z.ensures))

pub returns : goal.returns
returns c = walking_end c.requires.0.sure.bounded c.loop-w.invariant c.loop-w-test.false
