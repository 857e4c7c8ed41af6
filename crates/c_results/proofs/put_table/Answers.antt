-- The answer decides: the lower of its own refusal and 13, where the buffer is too short for a table; or the table is packed.
use mathlib.Core.Path.{refl}
use borrow.Author.Tests.{lt-ltb, le-ltb}
use Rattle.c_results.proofs.Laws.Ways.{given_short, given_written, given_refused}
use Rattle.c_results.proofs.put_table.Goals as goal

pub returns-then-short : goal.returns-then-short
returns-then-short c = given_short refl c.in-Ok.is (lt-ltb _ _ c.if-short.true) c.number.ensures

pub pack-requires : goal.pack-requires
pack-requires c = (c.requires c.in-Ok.is, c.if-short.false)

pub returns-else-short : goal.returns-else-short
returns-else-short c = given_written refl c.in-Ok.is (le-ltb _ _ c.if-short.false) c.pack.ensures

pub returns-in-Err : goal.returns-in-Err
returns-in-Err c = given_refused refl c.in-Err.is c.lower.ensures
