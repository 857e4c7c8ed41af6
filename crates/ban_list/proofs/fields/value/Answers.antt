use Rattle.std.proofs.Common.{sym, ◌∙◌}
use Rattle.ban_list.specs.Numbers.{sum_letter, sum_large, sum_on, sum_ends}
use Rattle.ban_list.proofs.fields.value.Goals as goal

pub returns-then-not-is_ascii_digit : goal.returns-then-not-is_ascii_digit
returns-then-not-is_ascii_digit c = sum_letter c.loop-b.invariant c.loop-b-test.true (sym c.is_ascii_digit.ensures.value ∙ c.if-not-is_ascii_digit.true)

pub returns-then-words-sum : goal.returns-then-words-sum
returns-then-words-sum c =
    let digit = rw c.if-not-is_ascii_digit.false at c.is_ascii_digit.ensures.cases in
    sum_large c.loop-b.invariant c.loop-b-test.true digit.0 digit.1 (rw c.from.ensures at c.if-words-sum.true)

pub loop-b-preserved : goal.loop-b-preserved
loop-b-preserved c =
    let digit = rw c.if-not-is_ascii_digit.false at c.is_ascii_digit.ensures.cases in
    rw c.from.ensures (sum_on c.loop-b.invariant c.loop-b-test.true digit.0 digit.1 (rw c.from.ensures at c.if-words-sum.false))

pub returns : goal.returns
returns c = sum_ends c.loop-b.invariant c.requires.0 c.loop-b-test.false
