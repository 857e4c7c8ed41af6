-- The sheet that is written for a well-formed table gives the table back, so the well-formed tables are exactly those that accepted sheets give.
use Rattle.std.specs.Prelude.{◌≡◌, refl, true, false, List, [], ◌∷◌, map, ◌↔◌, ℕ, zero, suc, ◌+◌, ◌<◌, eqb, length, get_or, Ok}
use Rattle.std.proofs.Common.{sym, ap, ◌∙◌, arith, le-ltb, eq-eqb, ne_eqb}
use Rattle.std.proofs.Math.Bool.{or-true}
use Rattle.std.proofs.Math.Decide.{dec_lt}
use Rattle.std.proofs.Math.ListN.{get_or-map}
use Rattle.code.specs.declared.Word.{Word}
use Rattle.code.specs.declared.Row.{Row}
use Rattle.code.specs.declared.Code.{Code}
use Rattle.code.specs.declared.Limits.{Limits}
use Rattle.code.specs.Definitions.Lists.{tabulate, sum}
use Rattle.code.specs.Definitions.Tables.{no_word, no_row, symbols_of, entry_of}
use Rattle.code.specs.Definitions.Sheets.{value_of, first_field, word_length, has_starts, row_place, bad_word, bad_entry, bad_row, start_field, word_of, row_of, begins_of, code_of, refused3, refused5, taken, FromSheet}
use Rattle.code.specs.Laws.Lists.{length-tabulate, get_d_tabulate, get_or_tabulate_past, tabulate_list, tabulate_same, map-tabulate, any-tabulate, every-tabulate}
use Rattle.code.specs.Laws.Fits.{Fits}
use Rattle.code.specs.Laws.WellFormed.{len_of, WellFormed}
use Rattle.well_formed.specs.Accepts.{accepted}
use Rattle.well_formed.specs.Given.{well}
use Rattle.csv_records.specs.Digits.{entry_value, digit_of, value_digit}
use Rattle.well_formed.specs.Print.{word_field, entry_field, fields_of, grid_of, print}
use Rattle.well_formed.specs.Written.{Roomy, within, symbol_written, length_word, written_bytes, written_grid, total_used, written_some, written_short}

-- the digits 0 and 1 are entries and start marks
bit_digit : (v : ℕ) → v < 2 → bad_entry (digit_of v ∷ []) ≡ false
unfolding digit_of
bit_digit zero h = refl
bit_digit (suc zero) h = refl
bit_digit (suc (suc v)) h = absurd (omega arith)

-- a digit is read back, and past the last one a zero
value_written : (s : List ℕ) (p : ℕ) → get_or s p 0 < 16 → value_of (get_or (map digit_of s) p 48) ≡ get_or s p 0
unfolding digit_of
value_written s p h = ap value_of (get_or-map digit_of s p 0) ∙ value_digit (get_or s p 0) h

pub word_is : (w : Word) (s : List ℕ) (n : ℕ) → s ≡ w.symbols → n ≡ w.len → record { symbols = s; len = n } ≡ w
word_is w s n p q = rw (p, q)

pub row_is : (r : Row) (e : List ℕ) → e ≡ r.entries → record { entries = e } ≡ r
row_is r e p = rw p

pub code_is : (c : Code) (ws : List Word) (rs : List Row) (bs : List ℕ) (n : ℕ) → ws ≡ c.words → rs ≡ c.rows → bs ≡ c.begins → n ≡ c.count
    → record { words = ws; rows = rs; begins = bs; count = n } ≡ c
code_is c ws rs bs n p q b r = rw (p, q, b, r)

module _ (l : Limits) (c : Code) (w : WellFormed l c) where
  -- No refusal holds of the records and fields.

  count_fits : refused3 l (grid_of c) ≡ false
  count_fits = le-ltb l.words (length (grid_of c)) (rw (length-tabulate (fields_of c) c.count) w.most)

  word_fits : (x : ℕ) → x < c.count → bad_word l (fields_of c x) ≡ false
  word_fits x h =
      let x< = within l c w x h in
      rw (length_word l c w x x<, ne_eqb (len_of c x) 0 (λ e. omega (arith, (w.word x x<).some h))) (le-ltb l.symbols (len_of c x) (w.word x x<).short)

  total_fits_lem : refused5 l (grid_of c) ≡ false
  total_fits_lem =
      le-ltb l.total (sum (map word_length (grid_of c)))
      (rw (map-tabulate word_length (fields_of c) c.count, tabulate_same (λ x. word_length (fields_of c x)) (len_of c) c.count (λ x h. length_word l c w x (within l c w x h)))
      (total_used l c w))

  starts_written : has_starts (grid_of c) ≡ true
  starts_written =
      every-tabulate (λ r. eqb (length r) (length (grid_of c) + 2)) (fields_of c) c.count
      (λ x h. rw (length-tabulate (fields_of c) c.count, length-tabulate (entry_field c x) c.count) (eq-eqb (suc (suc c.count)) (c.count + 2) (omega arith)))

  row_fits : (x : ℕ) → x < c.count → bad_row 2 (fields_of c x) ≡ false
  row_fits x h = any-tabulate bad_entry (entry_field c x) c.count (λ y i. bit_digit (entry_of c x y) ((w.row x (within l c w x h)).entries.below y))

  mark_fits : (x : ℕ) → x < c.count → bad_entry (start_field (fields_of c x)) ≡ false
  mark_fits x h = bit_digit (get_or c.begins x 0) (w.marks.below x)

  written_fits : Fits l (grid_of c)
  written_fits = record {
    records = count_fits;
    words = any-tabulate (bad_word l) (fields_of c) c.count word_fits;
    symbols = total_fits_lem;
    widths = rw (starts_written, or-true);
    entries = rw starts_written (any-tabulate (bad_row 2) (fields_of c) c.count row_fits);
    starts = rw starts_written (any-tabulate (λ r. bad_entry (start_field r)) (fields_of c) c.count mark_fits);
  }

  -- and their table is the one that was written.

  word_back : (k : ℕ) → k < l.words → Dec (k < c.count) → first_field (get_or (grid_of c) k []) ≡ word_field c k
  word_back k h (yes i) = ap first_field (get_d_tabulate (fields_of c) c.count k [] i)
  word_back k h (no i) = ap first_field (get_or_tabulate_past (fields_of c) c.count k [] (omega arith)) ∙ sym (rw ((w.word k h).unused (omega arith)))

  same_word : (k : ℕ) → k < l.words → word_of l (first_field (get_or (grid_of c) k [])) ≡ get_or c.words k no_word
  same_word k h =
      let word = get_or c.words k no_word in
      rw (word_back k h (dec_lt k c.count))
      (word_is word _ _
      (tabulate_list (λ p. value_of (get_or (word_field c k) p 48)) l.symbols word.symbols 0 (w.word k h).array
      (λ p i. value_written (symbols_of word) p (rw (symbol_written l c w k h p) ((w.word k h).symbols.below p)) ∙ symbol_written l c w k h p))
      (length_word l c w k h))

  field_back : (x y : ℕ) → x < c.count → get_or (get_or (grid_of c) x []) (y + 2) [] ≡ get_or (tabulate (entry_field c x) c.count) y []
  field_back x y h = let two : y + 2 ≡ suc (suc y) = omega arith in rw (get_d_tabulate (fields_of c) c.count x [] h, two)

  same_entry : (x y : ℕ) → x < l.words → Dec (x < c.count) → Dec (y < c.count) → entry_value (get_or (get_or (grid_of c) x []) (y + 2) []) ≡ entry_of c x y
  same_entry x y h (yes i) (yes j) =
      ap entry_value (field_back x y i ∙ get_d_tabulate (entry_field c x) c.count y [] j) ∙ value_digit (entry_of c x y) (omega (arith, (w.row x h).entries.below y))
  same_entry x y h (yes i) (no j) =
      ap entry_value (field_back x y i ∙ get_or_tabulate_past (entry_field c x) c.count y [] (omega arith)) ∙ sym ((w.row x h).entries.zero y (omega arith))
  same_entry x y h (no i) j =
      let field : get_or (get_or (grid_of c) x []) (y + 2) [] ≡ [] = rw (get_or_tabulate_past (fields_of c) c.count x [] (omega arith)) in
      ap entry_value field ∙ sym ((w.row x h).unused (omega arith) y)

  same_row : (x : ℕ) → x < l.words → row_of l (row_place (grid_of c)) (get_or (grid_of c) x []) ≡ get_or c.rows x no_row
  same_row x h =
      rw starts_written
      (row_is (get_or c.rows x no_row) _
      (tabulate_list (λ y. entry_value (get_or (get_or (grid_of c) x []) (y + 2) [])) l.words (get_or c.rows x no_row).entries 0 (w.row x h).array
      (λ y i. same_entry x y h (dec_lt x c.count) (dec_lt y c.count))))

  mark_back : (x : ℕ) → Dec (x < c.count) → entry_value (start_field (get_or (grid_of c) x [])) ≡ get_or c.begins x 0
  mark_back x (yes i) =
      ap (λ (r : List (List ℕ)). entry_value (start_field r)) (get_d_tabulate (fields_of c) c.count x [] i)
      ∙ value_digit (get_or c.begins x 0) (omega (arith, w.marks.below x))
  mark_back x (no i) =
      ap (λ (r : List (List ℕ)). entry_value (start_field r)) (get_or_tabulate_past (fields_of c) c.count x [] (omega arith))
      ∙ sym (w.marks.zero x (omega arith))

  same_mark : (x : ℕ) → begins_of l (grid_of c) x ≡ get_or c.begins x 0
  same_mark x = rw starts_written (mark_back x (dec_lt x c.count))

  same_code : code_of l (grid_of c) ≡ c
  unfolding code_of
  same_code =
      code_is c _ _ _ _ (tabulate_list (λ k. word_of l (first_field (get_or (grid_of c) k []))) l.words c.words no_word w.words same_word)
      (tabulate_list (λ k. row_of l (row_place (grid_of c)) (get_or (grid_of c) k [])) l.words c.rows no_row w.rows same_row)
      (tabulate_list (begins_of l (grid_of c)) l.words c.begins 0 w.begins (λ k h. same_mark k)) (length-tabulate (fields_of c) c.count)

  -- The sheet is accepted, and gives the table back.
  pub round : Roomy l → taken l (print c) ≡ record { answer = Ok tt; code = c }
  round room =
      accepted l (print c)
      record {
        size = rw (ne_eqb (length (print c)) 0 (λ e. omega (arith, written_some l c w)), le-ltb l.bytes (length (print c)) (written_short l c w room));
        bytes = written_bytes l c w;
        records = rw (written_grid l c w) written_fits;
        gives = rw (written_grid l c w) same_code;
      }

pub from_sheet : {l : Limits} {c : Code} → Roomy l → WellFormed l c → FromSheet l c
from_sheet {l} {c} room w = record { sheet = print c; gives = round l c w room }

-- The well-formed tables are exactly those that an accepted sheet gives.
pub well_formed_lem : {l : Limits} {c : Code} → Roomy l → WellFormed l c ↔ FromSheet l c
well_formed_lem room = (from_sheet room, well)
