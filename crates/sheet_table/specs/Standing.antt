-- Where the fields of an accepted record stand: its word, its start mark and its row, and where the next record begins.
use Rattle.std.specs.Prelude.{◌≡◌, refl, Bool, true, false, ℕ, suc, ◌+◌, ◌*◌, ◌-◌, ◌≤◌, ◌<◌, eqb, ltb, length, drop, get_or, if◌then◌else◌}
use Rattle.std.proofs.Common.{sym, ap, ◌∙◌, add-one, arith, length-drop, drop-cons, drop-drop, get_or-drop, ltb-false, lt-ltb}
use mathlib.Core.List.{List, [], ◌∷◌, head-eq_of_cons-eq, tail-eq_of_cons-eq}
use Rattle.std.proofs.Math.Decide.{dec_lt, ℕ_discrete}
use Rattle.code.specs.declared.Row.{Row}
use Rattle.code.specs.Definitions.Lists.{any, tabulate}
use Rattle.code.specs.Definitions.Sheets.{limits, is_digit, value_of, first_field, start_field, word_length, has_starts, row_place, row_of, begins_of, bad_entry, bad_row, bad_word}
use Rattle.code.specs.Laws.Lists.{any_at, or_neither, tabulate_same, get_or_within}
use Rattle.code.specs.Laws.Clean.{Clean, record_fields, record_fields_some}
use Rattle.code.specs.Laws.Fits.{Fits}
use Rattle.code.specs.Laws.Records.{entry_byte, place_some, width, bits}
use Rattle.csv_records.specs.Fields.{leading}
use Rattle.csv_records.specs.Front.{field_last, field_comma, field_line}
use Rattle.csv_records.specs.Symbols.{field_symbol}
use Rattle.sheet_table.specs.Rows.{After, over, down, Entries, row_entries, entries_rest}

-- entry y of a row
abbrev pub entry_of : List (List ℕ) → ℕ → ℕ
entry_of r y = field_symbol (get_or r y []) 0

unfoldable pub row_from : List (List ℕ) → Row
row_from r = record { entries = tabulate (entry_of r) 32 }

-- where the row begins whose word ends at e
abbrev pub row_start : ℕ → Bool → ℕ
row_start e starts = if starts then e + 3 else e + 1

-- the start mark that stands at `at`
abbrev pub mark_at : List ℕ → ℕ → Bool → ℕ
mark_at s at starts = if starts then if eqb (get_or s at 0) 49 then 1 else 0 else 1

-- Record k begins at `at`; its word ends at e; there are n records.
pub record RecordAt (s : List ℕ) (g : List (List (List ℕ))) (at e k n : ℕ) (starts : Bool) : Type 0 where
  pub word : leading (drop at s) ≡ first_field (get_or g k [])
  pub short : length (leading (drop at s)) ≤ 16
  pub mark : mark_at s (e + 1) starts ≡ begins_of limits g k
  pub row : List (List ℕ)
  pub wide : length row ≡ n
  pub entries : Entries (drop (row_start e starts) s) row (drop (k + 1) g)
  pub same : row_from row ≡ row_of limits (row_place g) (get_or g k [])

-- a word that refusal 4 leaves
short_word : (r : List (List ℕ)) → bad_word limits r ≡ false → word_length r ≤ 16
short_word r o = ltb-false 16 (word_length r) (or_neither (eqb (word_length r) 0) (ltb 16 (word_length r)) o).1

row_from_lem : (p q : List (List ℕ)) (j : ℕ) → ((y : ℕ) → get_or p y [] ≡ get_or q (y + j) []) → row_from p ≡ row_of limits j q
unfolding row_from
row_from_lem p q j same =
    let e : tabulate (entry_of p) 32 ≡ tabulate (λ y. field_symbol (get_or q (y + j) []) 0) 32 =
    tabulate_same (entry_of p) (λ y. field_symbol (get_or q (y + j) []) 0) 32 (λ y h. ap (λ (f : List ℕ). field_symbol f 0) (same y)) in
    rw e

-- the bytes of entries that stand from `at` on
module _ (s : List ℕ) (at : ℕ) {r : List (List ℕ)} {g : List (List (List ℕ))} (e : Entries (drop at s) r g) (y : ℕ) (h : y < length r) where
  entry_within : at + 2 * y < length s
  entry_within = omega (arith, e.long, length-drop at s)

  byte_at : get_or (drop at s) (2 * y) 48 ≡ get_or s (at + 2 * y) 0
  byte_at = get_or-drop at s (2 * y) 48 ∙ get_or_within s (at + 2 * y) 48 0 entry_within

  pub entry_digit : is_digit (get_or s (at + 2 * y) 0) ≡ true
  entry_digit = rw byte_at at (e.digits y h)

  pub entry_symbol : value_of (get_or s (at + 2 * y) 0) ≡ entry_of r y
  entry_symbol = ap value_of (sym byte_at ∙ e.bytes y h)

-- a record with entries has a comma after its word
after_word : (s : List ℕ) (at e : ℕ) (r : List (List ℕ)) (g : List (List (List ℕ))) → Clean (drop at s) → e ≡ at + length (leading (drop at s))
    → record_fields (drop at s) ≡ r ∷ g → 2 ≤ length r → Dec (e < length s) → Dec (get_or s e 0 ≡ 44) → (e < length s) × (get_or s e 0 ≡ 44)
after_word s at e r g c q p w (yes h) (yes k) = (h, k)
after_word s at e r g c q p w (yes h) (no k) =
    let one = ap length (head-eq_of_cons-eq (sym (field_line s at e c q h k).0.same ∙ p)) in absurd (omega arith)
after_word s at e r g c q p w (no h) d =
    let one = ap length (head-eq_of_cons-eq (sym (field_last s at e c q (omega arith)) ∙ p)) in absurd (omega arith)

-- Record k of a sheet that fits: its word, and behind the comma the other fields.
record Behind (s : List ℕ) (g : List (List (List ℕ))) (at e k : ℕ) : Type 0 where
  pub others : List (List ℕ)
  pub is : get_or g k [] ≡ leading (drop at s) ∷ others
  pub entries : Entries (drop (e + 1) s) others (drop (k + 1) g)

behind : (s : List ℕ) (g : List (List (List ℕ))) (at e k : ℕ) → Fits limits g → Clean (drop at s) → e ≡ at + length (leading (drop at s))
    → record_fields (drop at s) ≡ drop k g → k < length g → Behind s g at e k
behind s g at e k f c q p h =
    let row0 : List (List ℕ) = get_or g k [] in
    let p0 : record_fields (drop at s) ≡ row0 ∷ drop (suc k) g = p ∙ drop-cons g k [] h in
    let wide : length row0 ≡ length g + row_place g = width f k h in
    let comma = after_word s at e row0 (drop (suc k) g) c q p0 (omega (arith, place_some g)) (dec_lt e (length s)) (ℕ_discrete (get_or s e 0) 44) in
    let n = field_comma s at e c q comma.0 comma.1 in
    let others : List (List (List ℕ)) = record_fields (drop (e + 1) s) in
    let split : row0 ∷ drop (suc k) g ≡ (leading (drop at s) ∷ get_or others 0 []) ∷ drop 1 others = sym p0 ∙ n.same in
    let row_is : row0 ≡ leading (drop at s) ∷ get_or others 0 [] = head-eq_of_cons-eq split in
    let rest-is : drop (k + 1) g ≡ drop 1 others = rw (add-one k) (tail-eq_of_cons-eq split) in
    let good : any bad_entry (get_or others 0 []) ≡ false = rw row_is at (any_at (bad_row 1) g [] (bits f) k h) in
    let long = ap length row_is in
    record {
      others = get_or others 0 [];
      is = row_is;
      entries = rw rest-is
          (row_entries (get_or others 0 []) (drop (e + 1) s) (drop 1 others) n.clean (record_fields_some (drop (e + 1) s)) (omega (arith, place_some g)) good);
    }

module _ (s : List ℕ) (g : List (List (List ℕ))) (at e k : ℕ) (f : Fits limits g) (h : k < length g) where
  word_short : (o : List (List ℕ)) → get_or g k [] ≡ leading (drop at s) ∷ o → length (leading (drop at s)) ≤ 16
  word_short o is = let same = ap word_length is in omega (arith, short_word (get_or g k []) (any_at (bad_word limits) g [] f.words k h))

  plain_record : (o : List (List ℕ)) → get_or g k [] ≡ leading (drop at s) ∷ o → Entries (drop (e + 1) s) o (drop (k + 1) g) → has_starts g ≡ false
      → suc (length o) ≡ length g + 1 → RecordAt s g at e k (length g) false
  plain_record o is rest none wide =
      record {
        word = sym (ap first_field is);
        short = word_short o is;
        mark = rw (none, lt-ltb k (length g) h);
        row = o;
        wide = omega arith;
        entries = rest;
        same = rw none (row_from_lem o (get_or g k []) 1 (λ y. rw (is, add-one y)));
      }

  mark_read : (m : List ℕ) (o : List (List ℕ)) → get_or g k [] ≡ leading (drop at s) ∷ m ∷ o → Entries (drop (e + 1) s) (m ∷ o) (drop (k + 1) g) → has_starts g ≡ true
      → mark_at s (e + 1) true ≡ begins_of limits g k
  mark_read m o is rest has =
      let here : e + 1 + 2 * 0 ≡ e + 1 = omega arith in
      let byte : get_or s (e + 1) 0 ≡ get_or m 0 48 = rw here at (sym (byte_at s (e + 1) rest 0 (omega arith)) ∙ rest.bytes 0 (omega arith)) in
      let good : bad_entry m ≡ false = rw is at (any_at (λ r. bad_entry (start_field r)) g [] (rw has at f.starts) k h) in
      rw (has, is, byte) (entry_byte (λ b. (if eqb b 49 then 1 else 0) ≡ value_of b) m good refl refl)

  marked_record : (o : List (List ℕ)) → get_or g k [] ≡ leading (drop at s) ∷ o → Entries (drop (e + 1) s) o (drop (k + 1) g) → has_starts g ≡ true
      → suc (length o) ≡ length g + 2 → RecordAt s g at e k (length g) true
  marked_record [] is rest has wide = absurd (omega arith)
  marked_record (m ∷ o) is rest has wide =
      let further : e + 1 + 2 ≡ e + 3 = omega arith in
      let two : (y : ℕ) → y + 2 ≡ suc (suc y) = λ y. omega arith in
      record {
        word = sym (ap first_field is);
        short = word_short (m ∷ o) is;
        mark = mark_read m o is rest has;
        row = o;
        wide = omega arith;
        entries = rw (drop-drop 2 (e + 1) s, further) at (entries_rest (drop (e + 1) s) m o (drop (k + 1) g) rest (omega arith));
        same = rw has (row_from_lem o (get_or g k []) 2 (λ y. rw (is, two y)));
      }

  by_starts : (t : Bool) → has_starts g ≡ t → Behind s g at e k → RecordAt s g at e k (length g) t
  by_starts true q b = marked_record b.others b.is b.entries q (let w = ap length b.is in omega (arith, rw q at (width f k h)))
  by_starts false q b = plain_record b.others b.is b.entries q (let w = ap length b.is in omega (arith, rw q at (width f k h)))

  -- Record k of a sheet that fits stands as its fields say.
  pub record_at : (t : Bool) → has_starts g ≡ t → Clean (drop at s) → e ≡ at + length (leading (drop at s)) → record_fields (drop at s) ≡ drop k g
      → RecordAt s g at e k (length g) t
  record_at t has c q p = by_starts t has (behind s g at e k f c q p h)

-- Where the record after a row begins
after_row : (s : List ℕ) (p : ℕ) (g : List (List (List ℕ))) {u : List ℕ} → After g u → drop p s ≡ u → 1 ≤ length g
    → Clean (drop (p + 2) s) × (record_fields (drop (p + 2) s) ≡ g) × (p + 2 ≤ length s)
after_row s p g (over e) q h = let z = ap length e in absurd (omega arith)
after_row s p g (down {u} c e) q h =
    let z = ap length q in
    let t : drop (p + 2) s ≡ u = sym (drop-drop 2 p s) ∙ rw q in
    (rw t c, rw t e, omega (arith, length-drop p s))

pub next_record : (s : List ℕ) (at n : ℕ) (r : List (List ℕ)) (g : List (List (List ℕ))) → Entries (drop at s) r g → length r ≡ n → 1 ≤ n → 1 ≤ length g
    → Clean (drop (at + 2 * n + 1) s) × (record_fields (drop (at + 2 * n + 1) s) ≡ g) × (at + 2 * n + 1 ≤ length s)
next_record s at n r g e wide h some =
    let behind : at + (2 * length r - 1) ≡ at + 2 * n - 1 = omega arith in
    let next : at + 2 * n - 1 + 2 ≡ at + 2 * n + 1 = omega arith in
    rw next at (after_row s (at + 2 * n - 1) g e.after (rw (← behind) (sym (drop-drop (2 * length r - 1) at s))) some)
