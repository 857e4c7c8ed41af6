-- The first field stands alone, every other after what parts them.
use native.Mathlib.Omega.{arith}
use lib.ListN.{length-append}
use borrow.Author.Tests.{eq-eqb, ne_eqb}
use Rattle.writing.specs.Puts.{puts_then, puts_length}
use Rattle.writing.proofs.put_field.Goals as goal

pub put-requires : goal.put-requires
put-requires c = rw (eq-eqb _ 0 c.if-i-eq0.true) at c.requires

pub returns-then-i-eq0 : goal.returns-then-i-eq0
returns-then-i-eq0 c = rw (eq-eqb _ 0 c.if-i-eq0.true) c.put.ensures

pub put-next-requires : goal.put-next-requires
put-next-requires c =
    let room = rw (ne_eqb _ 0 c.if-i-eq0.false) at c.requires in
    omega (arith, length-append c.args.sep.now c.args.field.now)

pub put-requires-2 : goal.put-requires-2
put-requires-2 c =
    let f = c.put-next.ensures in
    let room = rw (ne_eqb _ 0 c.if-i-eq0.false) at c.requires in
    omega (arith, f.end, puts_length f, length-append c.args.sep.now c.args.field.now)

pub returns : goal.returns
returns c = rw (ne_eqb _ 0 c.if-i-eq0.false) (puts_then c.put-next.ensures c.put-2.ensures)
