-- What stands in the class sheet that is written for letters: no wrong byte; the records and fields that were joined, each a range of one letter; and it is short
-- enough.
use Rattle.std.specs.Prelude.{◌≡◌, refl, true, false, get_or}
use Rattle.std.proofs.Common.{◌∙◌, arith, ltb-true}
use mathlib.Core.List.{List, map}
use Prim.Native.Nat.{ℕ, ◌+◌, ◌*◌, ◌/◌, ◌%◌, ◌≤◌, ◌<◌}
use Rattle.std.proofs.Math.ListN.{length}
use Rattle.code.specs.Definitions.Lists.{any, every, tabulate, sum, join}
use Rattle.code.specs.Definitions.Sheets.{is_digit, grid, bad_bytes}
use Rattle.code.specs.Definitions.ClassSheets.{range_of, ranges_of, malformed, different_bytes}
use Rattle.code.specs.Definitions.Texts.{other, class_of, is_letter}
use Rattle.code.specs.Laws.Lists.{length-tabulate, tabulate_same, tabulate-map, map-tabulate, any-tabulate, sum_past, sum_bound}
use Rattle.csv_records.specs.Digits.{digit_of, value_digit, digit_digit}
use Rattle.csv_records.specs.Sheets.{record_of, sheet_of, Digital, digital_tabulate, sheet_bytes, sheet_grid, sheet_some, sheet_length}
use Rattle.well_classed.specs.Letters.{Letters, letter_at}
use Rattle.well_classed.specs.Singles.{single}
use Rattle.well_classed.specs.Print.{fields_of, fields_at, grid_of, print}

module _ (c : List ℕ) where
  -- The record of a letter: its fields are digits, it is not malformed, and its range is that letter.
  module _ (b : ℕ) (byte : b < different_bytes) (letter : is_letter c b ≡ true) where
    symbol : class_of c b < other
    symbol = ltb-true (class_of c b) other letter

    digits : (is_digit (digit_of (b / 16)) ≡ true) × (is_digit (digit_of (b % 16)) ≡ true) × (is_digit (digit_of (class_of c b)) ≡ true)
    digits = (digit_digit (b / 16) (omega arith), digit_digit (b % 16) (omega arith), digit_digit (class_of c b) symbol)

    fields_digits : every (every is_digit) (fields_of c b) ≡ true
    unfolding every
    fields_digits = rw (digits.0, digits.1, digits.2)

    fields_formed : malformed (fields_of c b) ≡ false
    unfolding malformed every
    fields_formed = rw (digits.0, digits.1, digits.2)

    fields_range : range_of (fields_of c b) ≡ single c b
    fields_range =
        let back : 16 * (b / 16) + b % 16 ≡ b = omega arith in
        rw (value_digit (b / 16) (omega arith), value_digit (b % 16) (omega arith), value_digit (class_of c b) symbol, back)

  pub written_some : (l : List ℕ) → 1 ≤ length (print c l)
  unfolding print
  written_some l = sheet_some (grid_of c l)

  module _ {l : List ℕ} (letters : Letters c different_bytes l) where
    -- What holds of the record of every letter holds of each record.
    at_each : (P : ℕ → Type 0) → ((b : ℕ) → b < different_bytes → is_letter c b ≡ true → P b) → (k : ℕ) → k < length l → P (get_or l k 0)
    at_each P all k h = let at = letter_at c letters k h in all (get_or l k 0) at.0 at.1

    digital : Digital (grid_of c l)
    digital = digital_tabulate (fields_at c l) (length l) (λ k h. (omega arith, at_each (λ b. every (every is_digit) (fields_of c b) ≡ true) fields_digits k h))

    pub written_bytes : bad_bytes false (print c l) ≡ false
    unfolding print
    written_bytes = sheet_bytes digital

    pub written_formed : any malformed (grid_of c l) ≡ false
    written_formed = any-tabulate malformed (fields_at c l) (length l) (at_each (λ b. malformed (fields_of c b) ≡ false) fields_formed)

    ranges_back : map range_of (grid_of c l) ≡ map (single c) l
    ranges_back =
        map-tabulate range_of (fields_at c l) (length l)
        ∙ tabulate_same (λ k. range_of (fields_at c l k)) (λ k. single c (get_or l k 0)) (length l) (at_each (λ b. range_of (fields_of c b) ≡ single c b) fields_range)
        ∙ tabulate-map (single c) l 0

    module _ (some : 1 ≤ length l) where
      records_some : 1 ≤ length (grid_of c l)
      records_some = rw (length-tabulate (fields_at c l) (length l)) some

      pub written_grid : grid (print c l) ≡ grid_of c l
      unfolding print
      written_grid = sheet_grid digital records_some

      pub written_ranges : ranges_of (print c l) ≡ map (single c) l
      unfolding ranges_of
      written_ranges = rw written_grid ranges_back

      -- seven bytes for a letter, and a CR LF
      pub written_short : length (print c l) ≤ 9 * length l
      unfolding print join sum tabulate
      written_short =
          let none : ℕ → ℕ = λ k. 0 in
          let joined : length (sheet_of (grid_of c l)) ≤ sum (tabulate (λ k. length (record_of (fields_at c l k)) + 2) (length l)) =
          rw (map-tabulate record_of (fields_at c l) (length l), map-tabulate (λ (r : List ℕ). length r + 2) (λ k. record_of (fields_at c l k)) (length l)) at (sheet_length (grid_of c l) records_some) in
          omega (arith, joined, sum_bound (λ k. 9) none 9 (length l) (λ k h. omega arith), sum_past none 0 (length l) (omega arith) (λ k i j. refl))
