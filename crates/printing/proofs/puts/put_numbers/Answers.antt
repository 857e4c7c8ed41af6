use borrow.Author.Rules.{rules}
use native.Mathlib.Omega.{arith}
use mathlib.Core.Path.{refl}
use mathlib.Core.List.{map}
use lib.ListN.{length-map}
use Rattle.printing.specs.Printed.{decimal}
use Rattle.writing.specs.Fields.{none_put, field_fits, field_put}
use Rattle.printing.proofs.Laws.Numbers.{number_at}
use Rattle.printing.proofs.puts.put_numbers.Goals as goal

pub loop-i-init : goal.loop-i-init
loop-i-init c = let a = c.args in (refl, none_put a.sep.now (map decimal a.numbers.now) _ _)

pub put_number-next-requires : goal.put_number-next-requires
put_number-next-requires c =
    let l = c.loop-i in
    let n = c.args.numbers.now in
    rw (number_at n l.i (search rules)) at (field_fits c.args.sep.now (map decimal n) l.i l.invariant.1 (omega (arith, length-map n decimal)) c.requires)

pub loop-i-preserved : goal.loop-i-preserved
loop-i-preserved c =
    let l = c.loop-i in
    let a = c.args in
    let n = a.numbers.now in (
      omega arith,
      field_put a.sep.now (map decimal n) l.i l.invariant.1 (omega (arith, length-map n decimal)) (rw (number_at n l.i (search rules)) c.put_number-next.ensures),
    )
