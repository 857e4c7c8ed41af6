-- A delay and `unbounded` have one record.
use Rattle.std.proofs.Common.{arith}
use Rattle.code.specs.Definitions.Lists.{join}
use Rattle.writing.specs.Puts.{starts}
use Rattle.printing.proofs.put_verdict.Goals as goal

pub returns-in-Finite : goal.returns-in-Finite
unfolding join
returns-in-Finite c = rw c.in-Finite.is c.put_pair.ensures

pub returns-in-Unbounded : goal.returns-in-Unbounded
unfolding join
returns-in-Unbounded c = rw c.in-Unbounded.is (starts c.put.ensures (omega (arith, c.requires.room)))
