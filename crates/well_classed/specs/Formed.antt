-- A record of a class sheet that is not malformed has two hexadecimal digits for its lowest byte and one for its symbol: so they are a byte and a symbol.
use Rattle.std.specs.Prelude.{◌≡◌, true, false, ◌&&◌, List, [], ℕ, ◌<◌, eqb, length, get_or}
use Rattle.std.proofs.Math.Bool.{and-eq-true_iff}
use Rattle.std.proofs.Common.{arith, eqb-true}
use Rattle.std.proofs.lemmas.Bool.{not-false}
use Rattle.code.specs.Definitions.Lists.{every}
use Rattle.code.specs.Definitions.Sheets.{is_digit, value_of}
use Rattle.code.specs.Definitions.ClassSheets.{Range, range_of, digits, malformed, different_bytes}
use Rattle.code.specs.Definitions.Texts.{other}
use Rattle.code.specs.Laws.Lists.{every_at}
use Rattle.csv_records.specs.Digits.{value_symbol}

digit_at : (n : ℕ) (f : List ℕ) → digits n f ≡ true → (k : ℕ) → k < n → value_of (get_or f k 48) < 16
digit_at n f e k h =
    let parts = (and-eq-true_iff (eqb (length f) n) (every is_digit f)).0 e in
    let long = eqb-true (length f) n parts.0 in
    value_symbol (get_or f k 48) (every_at is_digit f 48 parts.1 k (omega arith))

pub record Formed (r : Range) : Type 0 where
  pub lowest : r.lowest < different_bytes
  pub symbol : r.symbol < other

pub formed : (r : List (List ℕ)) → malformed r ≡ false → Formed (range_of r)
unfolding malformed
formed r e =
    let three = eqb (length r) 3 in
    let lowest = digits 2 (get_or r 0 []) in
    let highest = digits 2 (get_or r 1 []) in
    let symbol = digits 1 (get_or r 2 []) in
    let all = (and-eq-true_iff (three && lowest && highest) symbol).0 (not-false (three && lowest && highest && symbol) e) in
    let bytes = (and-eq-true_iff (three && lowest) highest).0 all.0 in
    let first = digit_at 2 (get_or r 0 []) ((and-eq-true_iff three lowest).0 bytes.0).1 in
    record { lowest = omega (arith, first 0 (omega arith), first 1 (omega arith)); symbol = digit_at 1 (get_or r 2 []) all.1 0 (omega arith) }
