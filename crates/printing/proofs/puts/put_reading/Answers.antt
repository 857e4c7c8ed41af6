-- The numbers take at most four bytes each, a comma included, since a byte has at most three digits; then CR LF.
use Rattle.std.proofs.Common.{rules, arith}
use Rattle.printing.proofs.Laws.Lengths.{length_numbers}
use Rattle.writing.specs.Puts.{puts_then, puts_length}
use Rattle.printing.proofs.puts.put_reading.Goals as goal

pub put_numbers-end-requires : goal.put_numbers-end-requires
put_numbers-end-requires c =
    let s = c.args.reading.now in
    omega (arith, length_numbers s (search rules))

pub put-requires : goal.put-requires
put-requires c =
    let s = c.args.reading.now in
    let f = c.put_numbers-end.ensures in
    omega (arith, f.end, puts_length f, length_numbers s (search rules))

pub returns : goal.returns
returns c =
    let s = c.args.reading.now in
    let f = c.put_numbers-end.ensures in
    let g = c.put.ensures in
    (puts_then f g, omega (arith, f.end, g.end, length_numbers s (search rules)))
