-- What a field of digits stands for, by the bytes of the sheet.
use mathlib.Core.Path.{◌≡◌, sym, ap, ◌∙◌}
use mathlib.Core.Bool.{true, false≢true, and-eq-true_iff}
use mathlib.Core.List.{List}
use Prim.Native.Nat.{ℕ, ◌+◌, ◌*◌, ◌<◌}
use native.Mathlib.Omega.{arith}
use native.Mathlib.Decide.{dec_lt}
use lib.Dec.{eqb}
use lib.ListN.{length, drop, get_or, get_or-eq_default}
use borrow.Author.Tests.{eqb-true}
use Rattle.code.specs.Definitions.ClassSheets.{byte_of, digits}
use Rattle.code.specs.Definitions.Lists.{every}
use Rattle.code.specs.Definitions.Sheets.{is_digit, value_of}
use Rattle.code.specs.Definitions.Texts.{other}
use Rattle.csv_records.specs.Fields.{leading}
use Rattle.csv_records.specs.Digits.{value_symbol}
use Rattle.csv_records.specs.Symbols.{leading_digit, leading_symbol}

pub digits_many : (n : ℕ) (f : List ℕ) → digits n f ≡ true → length f ≡ n
digits_many n f e = eqb-true (length f) n ((and-eq-true_iff (eqb (length f) n) (every is_digit f)).0 e).0

-- Past the end a read gives 0, which is no digit.
digit_within : (s : List ℕ) (k : ℕ) → is_digit (get_or s k 0) ≡ true → k < length s
digit_within s k d = by_place (dec_lt k (length s))
  where
    by_place : Dec (k < length s) → k < length s
    by_place (yes h) = h
    by_place (no h) = absurd (false≢true (ap is_digit (sym (get_or-eq_default s 0 {n = k} (omega arith))) ∙ d))

-- The byte at k is digit j of a field.
pub record DigitAt (s f : List ℕ) (k j : ℕ) : Type 0 where
  pub within : k < length s
  pub digit : is_digit (get_or s k 0) ≡ true
  pub value : value_of (get_or s k 0) ≡ value_of (get_or f j 48)
  pub small : value_of (get_or s k 0) < other

pub field_digit : (s : List ℕ) (from n j k : ℕ) → k ≡ from + j → digits n (leading (drop from s)) ≡ true → j < n → DigitAt s (leading (drop from s)) k j
field_digit s from n j k q d h =
    let l : j < length (leading (drop from s)) = omega (arith, digits_many n (leading (drop from s)) d) in
    let e = leading_digit s from j l in
    rw q (record { within = digit_within s (from + j) e; digit = e; value = leading_symbol s from j l; small = value_symbol (get_or s (from + j) 0) e })

-- The digit of a symbol, and the two of a byte.
module _ (s : List ℕ) (from : ℕ) where
  pub symbol_digit : digits 1 (leading (drop from s)) ≡ true → DigitAt s (leading (drop from s)) from 0
  symbol_digit d = field_digit s from 1 0 from (omega arith) d (omega arith)

  module _ (d : digits 2 (leading (drop from s)) ≡ true) where
    pub high_digit : DigitAt s (leading (drop from s)) from 0
    high_digit = field_digit s from 2 0 from (omega arith) d (omega arith)

    pub low_digit : DigitAt s (leading (drop from s)) (from + 1) 1
    low_digit = field_digit s from 2 1 (from + 1) (omega arith) d (omega arith)

    pub digits_small : {high low : ℕ} → high ≡ value_of (get_or s from 0) → low ≡ value_of (get_or s (from + 1) 0) → (high < other) × (low < other)
    digits_small p q = (omega (arith, high_digit.small), omega (arith, low_digit.small))

    pub byte_read : {high low : ℕ} → high ≡ value_of (get_or s from 0) → low ≡ value_of (get_or s (from + 1) 0) → 16 * high + low ≡ byte_of (leading (drop from s))
    byte_read p q = rw (p, q, high_digit.value, low_digit.value)
