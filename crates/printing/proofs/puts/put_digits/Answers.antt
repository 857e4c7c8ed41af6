use native.Mathlib.Omega.{arith}
use mathlib.Core.Path.{sym, ◌∙◌}
use mathlib.Core.List.{map}
use lib.ListN.{length-set, length-map, get_or-map}
use Rattle.copying.specs.Runs.{sets_next}
use Rattle.csv_records.specs.Digits.{digit_of}
use Rattle.printing.proofs.puts.put_digits.Goals as goal

pub loop-i-preserved : goal.loop-i-preserved
loop-i-preserved c = let l = c.loop-i in
    let a = c.args in
    let m = a.message.now in
    let d = c.digit.ensures ∙ sym (get_or-map digit_of m l.i 0) in
    (simp length-set l.invariant.0, rw (d, l.invariant.1) (sets_next (map digit_of m) a.out.now a.at l.i (digit_of 0) (omega (arith, length-map m digit_of))))
