-- Every table that an accepted sheet gives is well-formed: refusals 3 to 7 and 15 bound what the fields hold, and past the fields a read gives nothing, which counts as zero.
use Rattle.std.specs.Prelude.{◌≡◌, refl, Bool, true, false, ℕ, ◌+◌, ◌-◌, ◌≤◌, ◌<◌, ltb, eqb, drop, get_or, if◌then◌else◌}
use Rattle.std.proofs.Math.Path.{ap}
use Rattle.std.proofs.Common.{◌∙◌, arith, length-drop, get_or-drop}
use mathlib.Core.List.{List, [], map}
use Rattle.std.proofs.Math.Decide.{dec_lt}
use Rattle.std.proofs.Math.ListN.{length, get_or-eq_default}
use borrow.Author.Tests.{lt-ltb, ltb-false, eqb-false}
use Rattle.code.specs.declared.Word.{Word}
use Rattle.code.specs.declared.Code.{Code}
use Rattle.code.specs.declared.Limits.{Limits}
use Rattle.code.specs.Definitions.Lists.{tabulate, sum}
use Rattle.code.specs.Definitions.Tables.{no_word, no_row}
use Rattle.code.specs.Definitions.Sheets.{is_digit, value_of, body, grid, first_field, word_length, has_starts, row_place, bad_entry, bad_row, start_field, bad_word, word_of, row_of, begins_of, code_of, refused4, FromSheet}
use Rattle.code.specs.Laws.Lists.{length-tabulate, get_d_tabulate, tabulate_same, tabulate-map, any_at, sum_past, or_neither}
use Rattle.code.specs.Laws.Clean.{clean_body, records_some}
use Rattle.code.specs.Laws.Fits.{Fits}
use Rattle.code.specs.Laws.Records.{entry_byte, place_some, wide_at, begins_past, width, bits}
use Rattle.code.specs.Laws.WellFormed.{len_of, tabulate_cells, CellsFit, WordFits, RowFits, WellFormed}
use Rattle.well_formed.specs.Accepts.{accepts}
use Rattle.csv_records.specs.Digits.{value_symbol, entry_value, first_digits}

module _ (l : Limits) (g : List (List (List ℕ))) where
  nothing : (k : ℕ) → length g ≤ k → get_or g k [] ≡ []
  nothing k h = get_or-eq_default g [] h

  module _ (f : Fits l g) where
    -- Every field behind the word stands for 0 or 1.
    field_bit : (x j : ℕ) → x < length g → j + 1 < length (get_or g x []) → entry_value (get_or (get_or g x []) (j + 1) []) < 2
    field_bit x j h i =
        let r : List (List ℕ) = get_or g x [] in
        let within : j < length (drop 1 r) = omega (arith, length-drop 1 r) in
        let at : 1 + j ≡ j + 1 = omega arith in
        rw (← at, ← get_or-drop 1 r j [])
        (entry_byte (λ b. value_of b < 2) (get_or (drop 1 r) j []) (any_at bad_entry (drop 1 r) [] (any_at (bad_row 1) g [] (bits f) x h) j within) (omega arith) (omega arith))

    entry : ℕ → ℕ → ℕ
    entry x y = entry_value (get_or (get_or g x []) (y + row_place g) [])

    module _ (x : ℕ) where
      entry_unused : length g ≤ x → (y : ℕ) → entry x y ≡ 0
      unfolding entry
      entry_unused h y = rw (nothing x h)

      entry_after : (y : ℕ) → length g ≤ y → Dec (x < length g) → entry x y ≡ 0
      unfolding entry
      entry_after y h (yes i) = ap entry_value (get_or-eq_default (get_or g x []) [] (omega (arith, width f x i)))
      entry_after y h (no i) = entry_unused (omega arith) y

      entry_low : (y : ℕ) → Dec (x < length g) → Dec (y < length g) → entry x y < 2
      unfolding entry
      entry_low y (yes h) (yes i) =
          let at : y + (row_place g - 1) + 1 ≡ y + row_place g = omega (arith, place_some g) in
          rw at at (field_bit x (y + (row_place g - 1)) h (omega (arith, width f x h, place_some g)))
      entry_low y (yes h) (no i) = omega (arith, entry_after y (omega arith) (yes h))
      entry_low y (no h) i = omega (arith, entry_unused (omega arith) y)

      row_fits : RowFits l (length g) x (row_of l (row_place g) (get_or g x []))
      unfolding entry
      row_fits =
          let low : (y : ℕ) → entry x y < 2 = λ y. entry_low y (dec_lt x (length g)) (dec_lt y (length g)) in
          record {
            array = length-tabulate (entry x) l.words;
            entries = tabulate_cells 2 (length g) l.words (entry x) (omega arith) low (λ y h. entry_after y h (dec_lt x (length g)));
            unused = λ h y. (tabulate_cells 2 0 l.words (entry x) (omega arith) low (λ z i. entry_unused h z)).zero y (omega arith);
          }

    -- the start marks
    mark_low : (x : ℕ) → Dec (x < length g) → begins_of l g x < 2
    mark_low x (no h) = omega (arith, begins_past l g x (omega arith))
    mark_low x (yes h) = by_starts (has_starts g) refl
      where
        by_starts : (t : Bool) → has_starts g ≡ t → (if t then entry_value (start_field (get_or g x [])) else if ltb x (length g) then 1 else 0) < 2
        by_starts true e = field_bit x 0 h (omega (arith, wide_at g (length g + 2) x e h))
        by_starts false e = rw (lt-ltb x (length g) h) (omega arith)

    marks_fit : CellsFit 2 (length g) (tabulate (begins_of l g) l.words)
    marks_fit = tabulate_cells 2 (length g) l.words (begins_of l g) (omega arith) (λ x. mark_low x (dec_lt x (length g))) (begins_past l g)

  module _ (words : refused4 l g ≡ false) (digits : (k p : ℕ) → is_digit (get_or (first_field (get_or g k [])) p 48) ≡ true) (k : ℕ) where
    tests : k < length g → (eqb (word_length (get_or g k [])) 0 ≡ false) × (ltb l.symbols (word_length (get_or g k [])) ≡ false)
    tests h = or_neither _ _ (any_at (bad_word l) g [] words k h)

    len_unused : length g ≤ k → word_length (get_or g k []) ≡ 0
    len_unused h = rw (nothing k h)

    len_short : Dec (k < length g) → word_length (get_or g k []) ≤ l.symbols
    len_short (yes h) = ltb-false l.symbols (word_length (get_or g k [])) (tests h).1
    len_short (no h) = omega (arith, len_unused (omega arith))

    word_fits : WordFits l (length g) k (word_of l (first_field (get_or g k [])))
    word_fits =
        let field = first_field (get_or g k []) in
        let symbol_at : ℕ → ℕ = λ p. value_of (get_or field p 48) in
        record {
          array = length-tabulate symbol_at l.symbols;
          some = λ h. some_symbol h (eqb-false (length field) 0 (tests h).0);
          short = len_short (dec_lt k (length g));
          unused = len_unused;
          symbols = tabulate_cells 16 (length field) l.symbols symbol_at (omega arith) (λ p. value_symbol (get_or field p 48) (digits k p))
              (λ p h. ap value_of (get_or-eq_default field 48 h));
        }
      where
        some_symbol : k < length g → (word_length (get_or g k []) ≡ 0 → ⊥) → 1 ≤ word_length (get_or g k [])
        some_symbol h none = omega arith

  len_at : (k : ℕ) → k < l.words → len_of (code_of l g) k ≡ word_length (get_or g k [])
  unfolding code_of
  len_at k h = ap (λ (w : Word). w.len) (get_d_tabulate (λ i. word_of l (first_field (get_or g i []))) l.words k no_word h)

  -- The symbols of all words, over the array and over the records.
  total_given : length g ≤ l.words → sum (tabulate (len_of (code_of l g)) l.words) ≡ sum (map word_length g)
  total_given most =
      ap sum (tabulate_same (len_of (code_of l g)) (λ k. word_length (get_or g k [])) l.words len_at)
      ∙ sum_past (λ k. word_length (get_or g k [])) (length g) l.words most (λ k h i. ap word_length (nothing k h))
      ∙ ap sum (tabulate-map word_length g [])

  -- The table of records and fields that no refusal holds of.
  given : 1 ≤ length g → ((k p : ℕ) → is_digit (get_or (first_field (get_or g k [])) p 48) ≡ true) → Fits l g → WellFormed l (code_of l g)
  unfolding code_of
  given some digits f =
      let most : length g ≤ l.words = ltb-false l.words (length g) f.records in
      record {
        one = some;
        most = most;
        words = length-tabulate (λ k. word_of l (first_field (get_or g k []))) l.words;
        rows = length-tabulate (λ k. row_of l (row_place g) (get_or g k [])) l.words;
        begins = length-tabulate (begins_of l g) l.words;
        marks = marks_fit f;
        word = λ k h. rw (get_d_tabulate (λ i. word_of l (first_field (get_or g i []))) l.words k no_word h) (word_fits f.words digits k);
        row = λ x h. rw (get_d_tabulate (λ i. row_of l (row_place g) (get_or g i [])) l.words x no_row h) (row_fits f x);
        total = rw (total_given most) (ltb-false l.total (sum (map word_length g)) f.symbols);
      }

-- Every table that an accepted sheet gives is well-formed.
pub well : {l : Limits} {c : Code} → FromSheet l c → WellFormed l c
unfolding grid
well {l} f =
    let a = accepts l f.sheet f.gives in
    let some : 1 ≤ length (grid f.sheet) = rw (records_some (body f.sheet)) (omega arith) in
    rw a.gives at (given l (grid f.sheet) some (first_digits (clean_body f.sheet a.bytes)) a.records)
