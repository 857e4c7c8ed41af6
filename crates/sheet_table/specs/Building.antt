-- The table of an accepted sheet, record by record: what is read of each word, start mark and row, and what the table holds after k records.
use Rattle.std.specs.Prelude.{◌≡◌, refl, Bool, true, List, [], ◌++◌, ℕ, ◌+◌, ◌*◌, ◌≤◌, ◌<◌, length, take, drop, get_or, set, replicate}
use Rattle.std.proofs.Common.{sym, ap, ◌∙◌, arith, length-take, length-drop, length-set, get_or-take, get_or-drop, ltb-false}
use Rattle.std.proofs.Math.Decide.{dec_lt}
use Rattle.std.proofs.Math.ListN.{get_or-eq_default}
use Rattle.code.specs.declared.Word.{Word}
use Rattle.code.specs.declared.Row.{Row}
use Rattle.code.specs.declared.Code.{Code}
use Rattle.code.specs.Definitions.Lists.{every, tabulate}
use Rattle.code.specs.Definitions.Sheets.{limits, is_digit, value_of, first_field, has_starts, row_place, word_of, row_of, begins_of, code_of, blank_code}
use Rattle.code.specs.Laws.Lists.{tabulate_same, get_or_within}
use Rattle.code.specs.Laws.Filling.{fill_next, fill_end}
use Rattle.code.specs.Laws.Clean.{Clean, record_fields}
use Rattle.code.specs.Laws.Fits.{Fits}
use Rattle.code.specs.Laws.Records.{begins_past}
use Rattle.csv_records.specs.Fields.{leading}
use Rattle.csv_records.specs.Symbols.{field_symbol}
use Rattle.sheet_table.specs.Rows.{Entries}
use Rattle.sheet_table.specs.Standing.{entry_of, row_from, row_start, mark_at, RecordAt, record_at, entry_digit, entry_symbol, next_record}

-- Past the digits of a word its symbols are 0.
pub symbol_past : (f : List ℕ) (k : ℕ) → length f ≤ k → field_symbol f k ≡ 0
symbol_past f k h = ap value_of (get_or-eq_default f 48 h)

pub word_read : (w : Word) (f : List ℕ) (k : ℕ) → w.symbols ≡ tabulate (field_symbol f) k ++ drop k (replicate 16 0) → w.len ≡ length f → length f ≤ k → k ≤ 16
    → w ≡ word_of limits f
word_read w f k p q h m = let e = p ∙ fill_end (field_symbol f) 0 k 16 (λ j l. symbol_past f j (omega arith)) m in rw (← e, ← q)

-- The entries of a row, as the code reads them: every other byte of 2 n.
abbrev pub row_byte : List ℕ → ℕ → ℕ → ℕ → ℕ
row_byte s at n y = field_symbol (take (2 * n) (drop at s)) (2 * y)

pub record RowAt (s : List ℕ) (at n : ℕ) : Type 0 where
  pub few : n ≤ 32
  pub within : at + 2 * n ≤ length s + 1
  pub digits : (y : ℕ) → y < n → is_digit (get_or s (at + 2 * y) 0) ≡ true

pub row_symbol : (s : List ℕ) (at n y : ℕ) → y < n → at + 2 * n ≤ length s + 1 → value_of (get_or s (at + 2 * y) 0) ≡ row_byte s at n y
row_symbol s at n y h w =
    ap value_of
    (get_or_within s (at + 2 * y) 0 48 (omega arith) ∙ sym (get_or-drop at s (2 * y) 48) ∙ sym (get_or-take (2 * n) (drop at s) (2 * y) 48 (omega arith)))

pub row_past : (s : List ℕ) (at n y : ℕ) → n ≤ y → row_byte s at n y ≡ 0
row_past s at n y h = symbol_past (take (2 * n) (drop at s)) (2 * y) (omega (arith, length-take (2 * n) (drop at s)))

pub row_filled : (r : Row) (s : List ℕ) (at n y : ℕ) → r.entries ≡ tabulate (row_byte s at n) y ++ drop y (replicate 32 0) → n ≤ y → y ≤ 32
    → r ≡ record { entries = tabulate (row_byte s at n) 32 }
row_filled r s at n y p h m = let e = p ∙ fill_end (row_byte s at n) 0 y 32 (λ j l. row_past s at n j (omega arith)) m in rw (← e)

module _ (s : List ℕ) (at n : ℕ) (r : List (List ℕ)) (g : List (List (List ℕ))) (e : Entries (drop at s) r g) (wide : length r ≡ n) (some : 1 ≤ n) where
  within_row : at + 2 * n ≤ length s + 1
  within_row = omega (arith, e.long, length-drop at s)

  entry_at : (y : ℕ) → Dec (y < n) → row_byte s at n y ≡ entry_of r y
  entry_at y (yes h) = sym (row_symbol s at n y h within_row) ∙ entry_symbol s at e y (omega arith)
  entry_at y (no h) = row_past s at n y (omega arith) ∙ sym (ap (λ (f : List ℕ). field_symbol f 0) (get_or-eq_default r [] {n = y} (omega arith)))

  pub row_read : record { entries = tabulate (row_byte s at n) 32 } ≡ row_from r
  unfolding row_from
  row_read = let q = tabulate_same (row_byte s at n) (entry_of r) 32 (λ y h. entry_at y (dec_lt y n)) in rw q

  pub row_stands : n ≤ 32 → RowAt s at n
  row_stands h = record { few = h; within = within_row; digits = λ y i. entry_digit s at e y (omega arith) }

-- The table after k of n records, the next of which begins at `at`.
abbrev pub word_at : List (List (List ℕ)) → ℕ → Word
word_at g k = word_of limits (first_field (get_or g k []))

abbrev pub row_at : List (List (List ℕ)) → ℕ → Row
row_at g k = row_of limits (row_place g) (get_or g k [])

pub record Built (s : List ℕ) (g : List (List (List ℕ))) (code : Code) (at k : ℕ) : Type 0 where
  pub words : code.words ≡ tabulate (word_at g) k ++ drop k (replicate 32 (word_of limits []))
  pub rows : code.rows ≡ tabulate (row_at g) k ++ drop k (replicate 32 (row_of limits 1 []))
  pub begins : code.begins ≡ tabulate (begins_of limits g) k ++ drop k (replicate 32 0)
  pub array : length code.begins ≡ 32
  pub upto : k ≤ length g
  pub clean : k < length g → Clean (drop at s)
  pub rest : k < length g → record_fields (drop at s) ≡ drop k g
  pub within : k < length g → at ≤ length s

pub built_none : (s : List ℕ) (code : Code) → Clean s → code ≡ blank_code limits → Built s (record_fields s) code 0 0
unfolding blank_code code_of tabulate every
built_none s code c e =
    rw e record { words = refl; rows = refl; begins = refl; array = refl; upto = omega arith; clean = λ h. c; rest = λ h. refl; within = λ h. omega arith }

pub few_records : {g : List (List (List ℕ))} → Fits limits g → length g ≤ 32
few_records {g} f = ltb-false 32 (length g) f.records

module _ (s : List ℕ) (g : List (List (List ℕ))) (code : Code) (at e k n : ℕ) (t : Bool) (f : Fits limits g) (b : Built s g code at k) (records : n ≡ length g)
    (has : t ≡ has_starts g) (h : k < n) (q : e ≡ at + length (leading (drop at s))) where
  most : n ≤ 32
  most = omega (arith, few_records f)

  record_next : RecordAt s g at e k n t
  record_next = let l : k < length g = omega arith in rw records (record_at s g at e k f l t (sym has) (b.clean l) q (b.rest l))

  pub word_next : length (leading (drop at s)) ≤ 16
  word_next = record_next.short

  pub row_next : RowAt s (row_start e t) n
  row_next = let r = record_next in row_stands s (row_start e t) n r.row (drop (k + 1) g) r.entries r.wide (omega arith) most

  pub built_more : (word : Word) (mark : ℕ) (row : Row) → word ≡ word_of limits (leading (drop at s)) → mark ≡ mark_at s (e + 1) t
      → row ≡ record { entries = tabulate (row_byte s (row_start e t) n) 32 }
      → Built s g (record { words = set code.words k word; rows = set code.rows k row; begins = set code.begins k mark; count = code.count })
      (row_start e t + 2 * n + 1) (k + 1)
  built_more word mark row p m w =
      let r = record_next in
      let word_is : word ≡ word_at g k = p ∙ ap (word_of limits) r.word in
      let mark-is : mark ≡ begins_of limits g k = m ∙ r.mark in
      let row_is : row ≡ row_at g k = w ∙ row_read s (row_start e t) n r.row (drop (k + 1) g) r.entries r.wide (omega arith) ∙ r.same in
      let next : k + 1 < length g → _ = λ (l : k + 1 < length g).
      next_record s (row_start e t) n r.row (drop (k + 1) g) r.entries r.wide (omega arith) (omega (arith, length-drop (k + 1) g)) in
      record {
        words = rw (b.words, word_is) (fill_next (word_at g) (replicate 32 (word_of limits [])) k (omega (arith, most)));
        rows = rw (b.rows, row_is) (fill_next (row_at g) (replicate 32 (row_of limits 1 [])) k (omega (arith, most)));
        begins = rw (b.begins, mark-is) (fill_next (begins_of limits g) (replicate 32 0) k (omega (arith, most)));
        array = simp length-set b.array;
        upto = omega arith;
        clean = λ l. (next l).0;
        rest = λ l. (next l).1;
        within = λ l. (next l).2;
      }

-- After the last record the table is the sheet's.
pub built_all : (s : List ℕ) (g : List (List (List ℕ))) (code : Code) (at k n : ℕ) → Fits limits g → Built s g code at k → n ≡ length g → n ≤ k
    → record { words = code.words; rows = code.rows; begins = code.begins; count = n } ≡ code_of limits g
unfolding code_of
built_all s g code at k n f b e h =
    let most : k ≤ 32 = omega (arith, b.upto, few_records f) in
    let past : (j : ℕ) → k ≤ j → get_or g j [] ≡ [] = λ j l. get_or-eq_default g [] {n = j} (omega arith) in
    let w : code.words ≡ tabulate (word_at g) 32 =
    b.words ∙ fill_end (word_at g) (word_of limits []) k 32 (λ j l. ap (λ (r : List (List ℕ)). word_of limits (first_field r)) (past j l)) most in
    let r : code.rows ≡ tabulate (row_at g) 32 =
    b.rows ∙ fill_end (row_at g) (row_of limits 1 []) k 32 (λ j l. ap (row_of limits (row_place g)) (past j l)) most in
    let m : code.begins ≡ tabulate (begins_of limits g) 32 =
    b.begins ∙ fill_end (begins_of limits g) 0 k 32 (λ j l. begins_past limits g j (omega arith)) most in
    rw (w, r, m, e)
