-- Each way out is one of those that the fields of a record can go.
use Rattle.std.proofs.Common.{◌≡◌, Some, None, arith}
use Rattle.ban_list.specs.BanRecords.{ends_first, ends_second, goes_past, no_first, no_second, no_third, one_twice, one_ban}
use Rattle.ban_list.proofs.fields.read_record.Goals as goal

pub returns-then-first : goal.returns-then-first
returns-then-first c = search ends_first

pub returns-then-second : goal.returns-then-second
returns-then-second c = search ends_second

pub returns-then-not-third : goal.returns-then-not-third
returns-then-not-third c = search goes_past

pub returns-in_err-x : goal.returns-in_err-x
returns-in_err-x c =
    let none : c.read_field-first.result.number ≡ None = grind arith in
    rw c.from_residual.ensures (search no_first)

pub returns-in_err-y : goal.returns-in_err-y
returns-in_err-y c = rw c.from_residual-in_err-y.ensures (search (no_second, c.in_err-y.was))

pub returns-in_err-z : goal.returns-in_err-z
returns-in_err-z c = rw c.from_residual-in_err-z.ensures (search (no_third, c.in_err-z.was))

pub returns-then-y-z : goal.returns-then-y-z
returns-then-y-z c =
    let x : c.read_field-first.result.number ≡ Some c.in_ok-x.x = grind arith in
    one_twice c.args.words c.args.s.now c.args.at c.requires.0 _ c.read_field-first.ensures c.if-first.false _ c.read_field-second.ensures c.if-second.false
    _ c.read_field-third.ensures c.if-not-third.false x c.in_ok-y.was c.in_ok-z.was c.if-y-z.true

pub returns : goal.returns
returns c =
    let x : c.read_field-first.result.number ≡ Some c.in_ok-x.x = grind arith in
    one_ban c.args.words c.args.s.now c.args.at c.requires.0 _ c.read_field-first.ensures c.if-first.false _ c.read_field-second.ensures c.if-second.false
    _ c.read_field-third.ensures c.if-not-third.false x c.in_ok-y.was c.in_ok-z.was c.if-y-z.false
