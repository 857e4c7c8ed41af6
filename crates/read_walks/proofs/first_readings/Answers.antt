-- `read_walks::first_readings` meets its contract: a flat lemma for each of the three ways out.
use borrow.Author.Rules.{rules}
use native.Mathlib.Omega.{arith}
use Rattle.read_choices.specs.Choices.{continues_can, can_continues}
use Rattle.read_walks.specs.Shown.{sure_tells}
use Rattle.read_walks.specs.Answers.{branched, branch_within, answer_none, answer_one, answer_two}
use Rattle.read_walks.proofs.first_readings.Goals as goal

pub continues-requires : goal.continues-requires
continues-requires c =
    let b = c.requires.0.bound 0 in
    search rules

pub returns-then-not-continues : goal.returns-then-not-continues
returns-then-not-continues c =
    answer_none λ r. c.continues.ensures.no c.if-not-continues.true (can_continues (sure_tells c.requires.0.sure 0) r)

pub least_reading-w-requires : goal.least_reading-w-requires
least_reading-w-requires c =
    let p = c.requires.0 in
    (p, continues_can (sure_tells p.sure 0) (c.continues.ensures.yes c.if-not-continues.false), omega arith, omega arith, omega arith, omega arith)

pub second_reading-count-requires : goal.second_reading-count-requires
second_reading-count-requires c =
    let e = c.least_reading-w.ensures in
    (c.requires.0, branched e c.in-Some.is, branch_within e c.in-Some.is, omega arith)

pub returns-in-None : goal.returns-in-None
returns-in-None c = answer_one c.least_reading-w.ensures c.in-None.is

pub returns-in-Some : goal.returns-in-Some
returns-in-Some c = answer_two c.least_reading-w.ensures c.in-Some.is c.second_reading-count.ensures
