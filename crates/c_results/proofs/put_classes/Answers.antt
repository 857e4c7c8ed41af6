-- The answer decides, as for a table; the entries are copied.
use mathlib.Core.Path.{◌≡◌, refl}
use native.Mathlib.Omega.{arith}
use lib.ListN.{length}
use borrow.Author.Rules.{rules}
use borrow.Author.Tests.{lt-ltb, le-ltb}
use Rattle.code.specs.Definitions.ClassSheets.{different_bytes}
use Rattle.c_results.proofs.Laws.Ways.{given_short, given_written, given_refused, front_pasted}
use Rattle.c_results.proofs.put_classes.Goals as goal

pub returns-then-short : goal.returns-then-short
returns-then-short c = given_short refl c.in-Ok.is (lt-ltb _ _ c.if-short.true) c.number.ensures

pub copy_at-requires : goal.copy_at-requires
copy_at-requires c =
    let a = c.args in
    -- the type of the parameter says how long its array is
    let whole : length a.classes.entries ≡ different_bytes = search rules in
    (c.if-short.false, omega (arith, whole))

pub returns-else-short : goal.returns-else-short
returns-else-short c =
    let a = c.args in
    let whole : length a.classes.entries ≡ different_bytes = search rules in
    given_written refl c.in-Ok.is (le-ltb _ _ c.if-short.false)
    (front_pasted a.out.now a.classes.entries different_bytes whole c.copy_at.ensures)

pub returns-in-Err : goal.returns-in-Err
returns-in-Err c = given_refused refl c.in-Err.is c.lower.ensures
