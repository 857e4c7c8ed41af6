-- What stands in the sheet that is written for a well-formed table: its fields are digits, its records and fields are those that were joined, and it is short enough.
use Rattle.std.specs.Prelude.{◌≡◌, refl, true, false, take, get_or}
use Rattle.std.proofs.Common.{sym, ◌∙◌, arith, length-take, get_or-take, length-take-le}
use mathlib.Core.List.{List, [], ◌∷◌, map}
use Prim.Native.Nat.{ℕ, ◌+◌, ◌*◌, ◌≤◌, ◌<◌}
use Rattle.std.proofs.Math.Nat.{mul-le-mul}
use Rattle.std.proofs.Math.Decide.{dec_lt}
use Rattle.std.proofs.Math.ListN.{length, get_or-map, get_or-eq_default}
use Rattle.std.proofs.lemmas.List.{length-map}
use Rattle.code.specs.declared.Code.{Code}
use Rattle.code.specs.declared.Limits.{Limits}
use Rattle.code.specs.Definitions.Lists.{every, tabulate, sum}
use Rattle.code.specs.Definitions.Tables.{no_word, symbols_of, entry_of}
use Rattle.code.specs.Definitions.Sheets.{is_digit, grid, bad_bytes}
use Rattle.code.specs.Laws.Lists.{length-tabulate, map-tabulate, every_all, every-tabulate, sum_past, sum_bound}
use Rattle.code.specs.Laws.WellFormed.{len_of, WellFormed}
use Rattle.csv_records.specs.Digits.{digit_of, digit_digit}
use Rattle.csv_records.specs.Join.{length-join}
use Rattle.csv_records.specs.Sheets.{record_of, sheet_of, Digital, digital_tabulate, sheet_bytes, sheet_grid, sheet_some, sheet_length}
use Rattle.well_formed.specs.Print.{word_field, entry_field, fields_of, grid_of, print}

-- A sheet has room for every table: for the symbols, and in every record for the start mark and each of the entries with a comma, and for the CR LF.
abbrev pub Roomy : Limits → Type 0
Roomy l = l.total + l.words * (l.words * 2 + 4) ≤ l.bytes

take_zeros : (n : ℕ) (s : List ℕ) → ((p : ℕ) → n ≤ p → get_or s p 0 ≡ 0) → (p : ℕ) → Dec (p < n) → get_or (take n s) p 0 ≡ get_or s p 0
take_zeros n s zeros p (yes h) = get_or-take n s p 0 h
take_zeros n s zeros p (no h) = get_or-eq_default (take n s) 0 (omega (arith, length-take n s)) ∙ sym (zeros p (omega arith))

module _ (l : Limits) (c : Code) (w : WellFormed l c) where
  module _ (k : ℕ) (h : k < l.words) where
    pub symbol_written : (p : ℕ) → get_or (symbols_of (get_or c.words k no_word)) p 0 ≡ get_or (get_or c.words k no_word).symbols p 0
    symbol_written p = take_zeros (len_of c k) (get_or c.words k no_word).symbols (w.word k h).symbols.zero p (dec_lt p (len_of c k))

    pub length_word : length (word_field c k) ≡ len_of c k
    length_word =
        length-map (symbols_of (get_or c.words k no_word)) digit_of
        ∙ length-take-le (len_of c k) (get_or c.words k no_word).symbols (omega (arith, (w.word k h).short, (w.word k h).array))

    word_digits : every is_digit (word_field c k) ≡ true
    word_digits =
        every_all is_digit (word_field c k) (digit_of 0)
        (λ p i. rw (get_or-map digit_of (symbols_of (get_or c.words k no_word)) p 0, symbol_written p) (digit_digit _ ((w.word k h).symbols.below p)))

    entries_digits : every (every is_digit) (tabulate (entry_field c k) c.count) ≡ true
    unfolding every
    entries_digits =
        every-tabulate (every is_digit) (entry_field c k) c.count (λ y i. rw (digit_digit (entry_of c k y) (omega (arith, (w.row k h).entries.below y))))

    fields_digits : every (every is_digit) (fields_of c k) ≡ true
    unfolding every
    fields_digits = rw (word_digits, digit_digit (get_or c.begins k 0) (omega (arith, w.marks.below k)), entries_digits)

    -- each field with its comma
    entries_length : sum (map (λ (f : List ℕ). length f + 1) (tabulate (entry_field c k) c.count)) ≤ c.count * 2
    unfolding tabulate sum
    entries_length =
        let none : ℕ → ℕ = λ y. 0 in
        rw (map-tabulate (λ (f : List ℕ). length f + 1) (entry_field c k) c.count)
        (omega (arith, sum_bound (λ y. 2) none 2 c.count (λ y i. omega arith), sum_past none 0 c.count (omega arith) (λ y i j. refl)))

    record_length : length (record_of (fields_of c k)) + 2 ≤ len_of c k + (c.count * 2 + 4)
    unfolding sum
    record_length = omega (arith, length-join (44 ∷ []) (fields_of c k) (omega arith), length_word, entries_length)

  pub within : (k : ℕ) → k < c.count → k < l.words
  within k h = omega (arith, w.most)

  digital : Digital (grid_of c)
  digital = digital_tabulate (fields_of c) c.count (λ x h. (omega arith, fields_digits x (within x h)))

  some : 1 ≤ length (grid_of c)
  some = rw (length-tabulate (fields_of c) c.count) w.one

  pub written_bytes : bad_bytes false (print c) ≡ false
  unfolding print
  written_bytes = sheet_bytes digital

  pub written_grid : grid (print c) ≡ grid_of c
  unfolding print
  written_grid = sheet_grid digital some

  -- the symbols of the words in use are all there are
  pub total_used : sum (tabulate (len_of c) c.count) ≤ l.total
  total_used = omega (arith, w.total, sum_past (len_of c) c.count l.words w.most (λ k h i. (w.word k i).unused h))

  pub written_some : 0 < length (print c)
  unfolding print
  written_some = sheet_some (grid_of c)

  pub written_short : Roomy l → length (print c) ≤ l.bytes
  unfolding print
  written_short room =
      let joined : length (sheet_of (grid_of c)) ≤ sum (tabulate (λ x. length (record_of (fields_of c x)) + 2) c.count) =
      rw (map-tabulate record_of (fields_of c) c.count, map-tabulate (λ (r : List ℕ). length r + 2) (λ x. record_of (fields_of c x)) c.count) at (sheet_length (grid_of c) some) in
      let bound = sum_bound (λ x. length (record_of (fields_of c x)) + 2) (len_of c) (c.count * 2 + 4) c.count (λ x h. record_length x (within x h)) in
      let square : c.count * (c.count * 2 + 4) ≤ l.words * (l.words * 2 + 4) = mul-le-mul w.most (omega (arith, w.most)) in
      omega (arith, total_used)
