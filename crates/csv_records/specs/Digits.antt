-- Digits and the symbols they stand for; and the first field of every record of a sheet without refusal 2 is digits.
use Rattle.std.specs.Prelude.{◌≡◌, refl, Bool, true, false, List, [], ◌∷◌, ℕ, zero, suc, ◌+◌, ◌-◌, ◌<◌, ltb, leb, drop, get_or, if◌then◌else◌}
use Rattle.std.proofs.Math.Bool.{and-false, and-eq-true_iff}
use Rattle.std.proofs.Common.{arith, get_or-drop, leb-true, le-leb, lt-ltb, le-ltb}
use Rattle.std.proofs.Math.Decide.{dec_lt}
use Rattle.std.proofs.lemmas.Bool.{lt-leb}
use Rattle.code.specs.Definitions.Sheets.{is_digit, value_of, push, first_field}
use Rattle.code.specs.Laws.Clean.{Clean, none, digit, comma, line, record_fields, record_fields_none, record_fields_digit, record_fields_comma, record_fields_line}

-- A digit stands for a symbol.
pub value_symbol : (a : ℕ) → is_digit a ≡ true → value_of a < 16
value_symbol a e = by_test (leb a 57) refl
  where
    by_test : (t : Bool) → leb a 57 ≡ t → (if t then a - 48 else a - 55) < 16
    by_test true p = omega (arith, leb-true a 57 p)
    by_test false p =
        let high = rw (p, and-false) at e in
        omega (arith, leb-true a 70 ((and-eq-true_iff (leb 65 a) (leb a 70)).0 high).1)

-- The value of an entry's field.
abbrev pub entry_value : List ℕ → ℕ
entry_value f = value_of (get_or f 0 48)

-- The digit of a symbol.
unfoldable pub digit_of : ℕ → ℕ
digit_of v = if ltb v 10 then v + 48 else v + 55

pub value_digit : (v : ℕ) → v < 16 → value_of (digit_of v) ≡ v
unfolding digit_of
value_digit v h = by_size (dec_lt v 10)
  where
    by_size : Dec (v < 10) → value_of (digit_of v) ≡ v
    by_size (yes q) = rw (lt-ltb v 10 q, le-leb (v + 48) 57 (omega arith)) (omega arith)
    by_size (no q) = rw (le-ltb v 10 (omega arith), lt-leb (v + 55) 57 (omega arith)) (omega arith)

pub digit_digit : (v : ℕ) → v < 16 → is_digit (digit_of v) ≡ true
unfolding digit_of
digit_digit v h = by_size (dec_lt v 10)
  where
    by_size : Dec (v < 10) → is_digit (digit_of v) ≡ true
    by_size (yes q) = rw (lt-ltb v 10 q, le-leb (v + 48) 57 (omega arith), le-leb 48 (v + 48) (omega arith))
    by_size (no q) =
        rw (le-ltb v 10 (omega arith), lt-leb (v + 55) 57 (omega arith), and-false, le-leb 65 (v + 55) (omega arith), le-leb (v + 55) 70 (omega arith))

-- Past the end of a field a read gives 48, the digit 0: so no index needs a bound.
abbrev FirstDigits : List (List (List ℕ)) → Type 0
FirstDigits g = (k p : ℕ) → is_digit (get_or (first_field (get_or g k [])) p 48) ≡ true

module _ (g : List (List (List ℕ))) (fit : FirstDigits g) where
  after_first_lem : (k p : ℕ) → is_digit (get_or (first_field (get_or (drop 1 g) k [])) p 48) ≡ true
  after_first_lem k p = rw (get_or-drop 1 g k []) (fit (1 + k) p)

  digit_front : (a : ℕ) → is_digit a ≡ true → FirstDigits (push a (get_or g 0 []) ∷ drop 1 g)
  digit_front a e zero zero = e
  digit_front a e zero (suc p) = fit 0 p
  digit_front a e (suc k) p = after_first_lem k p

  comma_front : FirstDigits (([] ∷ get_or g 0 []) ∷ drop 1 g)
  comma_front zero p = refl
  comma_front (suc k) p = after_first_lem k p

  line_front : FirstDigits (([] ∷ []) ∷ g)
  line_front zero p = refl
  line_front (suc k) p = fit k p

no_digits : FirstDigits (([] ∷ []) ∷ [])
no_digits zero p = refl
no_digits (suc k) p = refl

pub first_digits : {s : List ℕ} → Clean s → (k p : ℕ) → is_digit (get_or (first_field (get_or (record_fields s) k [])) p 48) ≡ true
first_digits none = rw record_fields_none no_digits
first_digits (digit {a} {s} e c) = rw (record_fields_digit a s e) (digit_front (record_fields s) (first_digits c) a e)
first_digits (comma {s} c) = rw (record_fields_comma s) (comma_front (record_fields s) (first_digits c))
first_digits (line {s} c) = rw (record_fields_line s) (line_front (record_fields s) (first_digits c))
