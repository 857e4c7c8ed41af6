-- After a 0 the sheet or the list was accepted, and the buffer begins with what it gives.
use Rattle.std.specs.Prelude.{Err, Ok, Result}
use mathlib.Core.Path.{◌≡◌, refl, ap}
use mathlib.Core.List.{List}
use Prim.Native.Nat.{ℕ, ◌≤◌, ◌<◌}
use native.Mathlib.Omega.{arith}
use native.Mathlib.Decide.{dec_lt}
use lib.ListN.{length, drop}
use lib.Seq.{take_at}
use borrow.Author.Tests.{lt-ltb, le-ltb}
use Rattle.code.specs.declared.Refusal.{Refusal}
use Rattle.code.specs.declared.Refusal.TheVariants.{SheetLength, SheetBytes, RecordCount, WordLength, CodeLength, FieldCount, RowEntry, NotFromSheet, UnknownWord, ForbiddenPair, MessageLength, MessageSymbol, ShortBuffer, NoReading, StartField, BanRecord, BanLimit, ClassRecord, ClassRange, ClassOverlap, NoFiniteDelay}
use Rattle.code.specs.Definitions.Answers.{refusal_number}
use Rattle.code.specs.Definitions.ClassSheets.{different_bytes}
use Rattle.code.specs.Definitions.Operations.{written}
use Rattle.c_results.specs.Given.{sheet_number, Answered, classes_in}

some_number : (r : Refusal) → 1 ≤ refusal_number r
some_number SheetLength = omega arith
some_number SheetBytes = omega arith
some_number RecordCount = omega arith
some_number WordLength = omega arith
some_number CodeLength = omega arith
some_number FieldCount = omega arith
some_number RowEntry = omega arith
some_number NotFromSheet = omega arith
some_number UnknownWord = omega arith
some_number ForbiddenPair = omega arith
some_number MessageLength = omega arith
some_number MessageSymbol = omega arith
some_number ShortBuffer = omega arith
some_number NoReading = omega arith
some_number StartField = omega arith
some_number BanRecord = omega arith
some_number BanLimit = omega arith
some_number ClassRecord = omega arith
some_number ClassRange = omega arith
some_number ClassOverlap = omega arith
some_number NoFiniteDelay = omega arith

accepted : (a : Result Unit Refusal) (n : ℕ) (b : List ℕ) → 0 ≡ sheet_number a n b → Dec (length b < n) → (a ≡ Ok tt) × (n ≤ length b)
accepted (Ok tt) n b e (yes h) = let k = rw (lt-ltb (length b) n h) at e in absurd (omega arith)
accepted (Ok tt) n b e (no h) = (refl, omega arith)
accepted (Err r) n b e (yes h) = let k = rw (lt-ltb (length b) n h) at e in absurd (omega (arith, some_number r))
accepted (Err r) n b e (no h) = let k = rw (le-ltb (length b) n (omega arith)) at e in absurd (omega (arith, some_number r))

pub given : {a : Result Unit Refusal} {n : ℕ} {bytes b b' : List ℕ} → Answered a n bytes b b' 0 → (a ≡ Ok tt) × (b' ≡ written bytes b)
given {a} {n} {bytes} {b} call =
    let d = accepted a n b call.number (dec_lt (length b) n) in
    (d.0, rw (d.0, le-ltb (length b) n d.1) at call.buffer)

-- Classes that were written stand there.
pub classes_there : (c b : List ℕ) → length c ≡ different_bytes → classes_in (written c b) ≡ record { entries = c }
classes_there c b long = ap (λ (l : List ℕ). record { entries = l }) (take_at c (drop (length c) b) different_bytes long)
