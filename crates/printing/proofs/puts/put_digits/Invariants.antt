-- The symbols passed stand in the buffer as digits, from `at` on.
use mathlib.Core.Path.{◌≡◌}
use mathlib.Core.List.{map}
use lib.ListN.{length, take}
use lib.Seq.{sets}
use Rattle.csv_records.specs.Digits.{digit_of}
use Rattle.printing.proofs.puts.put_digits.Given as goal

abbrev pub invariant-loop-i : goal.invariant-loop-i
invariant-loop-i l = (length l.out ≡ length l.initial.out) × (l.out ≡ sets l.initial.out l.at (take l.i (map digit_of l.message)))
