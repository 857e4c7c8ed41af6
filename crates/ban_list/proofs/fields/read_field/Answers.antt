-- The field's number, its end and the byte there are what was called for.
use Rattle.std.proofs.Common.{◌≡◌, arith, ◌-◌, length, drop, rules}
use Rattle.ban_list.specs.Numbers.{leading_take}
use Rattle.csv_records.specs.Fields.{leading}
use Rattle.ban_list.proofs.fields.read_field.Goals as goal

pub returns : goal.returns
returns c =
    let t = drop c.args.at c.args.s.now in
    let long : c.field_end-end.result - c.args.at ≡ length (leading t) = omega arith in
    record { read = rw (long, leading_take t) at c.number.ensures; ends = search rules; within = search rules; stands = rw c.byte_at.ensures }
