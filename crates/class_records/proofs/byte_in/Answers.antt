-- Both bytes are digits of the field, so what they stand for makes a byte.
use native.Mathlib.Omega.{arith}
use Rattle.class_records.proofs.Laws.Values.{high_digit, low_digit, digits_small, byte_read}
use Rattle.class_records.proofs.byte_in.Goals as goal

pub bounds-s-at : goal.bounds-s-at
bounds-s-at c = (high_digit c.args.s.now c.args.at c.requires).within

pub value_of-high-requires : goal.value_of-high-requires
value_of-high-requires c = (high_digit c.args.s.now c.args.at c.requires).digit

pub overflow_add-at : goal.overflow_add-at
overflow_add-at c = omega (arith, (low_digit c.args.s.now c.args.at c.requires).within)

pub bounds-s-at-2 : goal.bounds-s-at-2
bounds-s-at-2 c = (low_digit c.args.s.now c.args.at c.requires).within

pub value_of-low-requires : goal.value_of-low-requires
value_of-low-requires c = (low_digit c.args.s.now c.args.at c.requires).digit

pub overflow_mul-result : goal.overflow_mul-result
overflow_mul-result c = let small = digits_small c.args.s.now c.args.at c.requires c.value_of-high.ensures c.value_of-low.ensures in
    omega (arith, small.0, small.1)

pub overflow_add-result : goal.overflow_add-result
overflow_add-result c = let small = digits_small c.args.s.now c.args.at c.requires c.value_of-high.ensures c.value_of-low.ensures in
    omega (arith, small.0, small.1)

pub returns : goal.returns
returns c = byte_read c.args.s.now c.args.at c.requires c.value_of-high.ensures c.value_of-low.ensures
