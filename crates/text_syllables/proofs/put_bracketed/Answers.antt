-- A byte, the letters and a byte, one behind the other.
use native.Mathlib.Omega.{arith}
use lib.ListN.{length-set}
use Rattle.writing.specs.Puts.{puts_one, puts_then, puts_length}
use Rattle.text_syllables.proofs.put_bracketed.Goals as goal

pub put-end-requires : goal.put-end-requires
put-end-requires c = let a = c.args in omega (arith, length-set a.out.now a.at a.lead)

pub bounds-out-end : goal.bounds-out-end
bounds-out-end c =
    let f = c.put-end.ensures in
    let a = c.args in
    omega (arith, f.end, puts_length f, length-set a.out.now a.at a.lead)

pub returns : goal.returns
returns c =
    let f = c.put-end.ensures in
    let a = c.args in
    puts_then (puts_one a.at a.lead a.out.now) (puts_then f (puts_one c.put-end.result a.tail _))

pub shape_of-out : goal.shape_of-out
shape_of-out c = puts_length (returns c)
