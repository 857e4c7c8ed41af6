-- The two cases of the digit.
use borrow.Author.Tests.{lt-ltb, le-ltb}
use native.Mathlib.Omega.{arith}
use Rattle.csv_records.specs.Digits.{digit_of}
use Rattle.printing.proofs.puts.digit.Goals as goal

pub returns-then-symbol-lt10 : goal.returns-then-symbol-lt10
unfolding digit_of
returns-then-symbol-lt10 c = rw (lt-ltb _ _ c.if-symbol-lt10.true) (omega arith)

pub returns-else-symbol-lt10 : goal.returns-else-symbol-lt10
unfolding digit_of
returns-else-symbol-lt10 c = rw (le-ltb _ _ c.if-symbol-lt10.false) (omega arith)
