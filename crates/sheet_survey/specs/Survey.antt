-- A survey of the records, field by field: what it counts and flags, and what it answers.
use Rattle.std.specs.Prelude.{◌≡◌, refl, Bool, false, not, ◌&&◌, ◌||◌, List, [], ◌∷◌, map, ℕ, suc, ◌+◌, ltb, eqb, length, take, drop, get_or, if◌then◌else◌, Err, Ok, Result}
use Rattle.std.proofs.Common.{ap₂, ◌∙◌, add-zero, arith, ne_eqb, eq-eqb}
use Rattle.std.proofs.Math.Bool.{or-false, or_assoc}
use Rattle.code.specs.declared.Refusal.TheVariants.{RecordCount, WordLength, CodeLength, FieldCount, RowEntry, StartField}
use Rattle.code.specs.declared.Refusal.{Refusal}
use Rattle.code.specs.Definitions.Lists.{any, sum}
use Rattle.code.specs.Definitions.Sheets.{limits, bad_entry, bad_row, bad_word, word_length}
use Rattle.sheet_survey.specs.declared.Survey.{Survey}

-- a survey by its parts: records, fields, width, symbols, and the flags for words, widths, second and later fields
abbrev pub parts : ℕ → ℕ → ℕ → ℕ → Bool → Bool → Bool → Bool → Survey
parts n k w y a b c d = record { records = n; fields = k; width = w; symbols = y; badword = a; badwidth = b; badsecond = c; badlater = d }

abbrev pub start : Survey
start = parts 0 0 0 0 false false false false

-- the first field of a record is its word
-- (n digits, of which the first is the byte b)
abbrev pub word_bad : ℕ → Bool
word_bad n = eqb n 0 || ltb 16 n

abbrev pub take_word : Survey → ℕ → Survey
take_word v n = parts v.records (v.fields + 1) v.width (v.symbols + n) (v.badword || word_bad n) v.badwidth v.badsecond v.badlater

abbrev pub entry_bad : ℕ → ℕ → Bool
entry_bad n b = not (eqb n 1 && (eqb b 48 || eqb b 49))

abbrev pub take_second : Survey → ℕ → ℕ → Survey
take_second v n b = parts v.records (v.fields + 1) v.width v.symbols v.badword v.badwidth (v.badsecond || entry_bad n b) v.badlater

abbrev pub take_later : Survey → ℕ → ℕ → Survey
take_later v n b = parts v.records (v.fields + 1) v.width v.symbols v.badword v.badwidth v.badsecond (v.badlater || entry_bad n b)

unfoldable pub take_span : Survey → ℕ → ℕ → Survey
take_span v n b = if eqb v.fields 0 then take_word v n else if eqb v.fields 1 then take_second v n b else take_later v n b

abbrev pub take_field : Survey → List ℕ → Survey
take_field v f = take_span v (length f) (get_or f 0 0)

-- the first record's width is the measure of the others
abbrev pub width_of : Survey → ℕ
width_of v = if eqb v.records 0 then v.fields else v.width

unfoldable pub end_record : Survey → Survey
end_record v =
    parts (v.records + 1) 0 (width_of v) v.symbols v.badword (v.badwidth || not (eqb v.fields (width_of v))) v.badsecond v.badlater

unfoldable pub survey_fields : Survey → List (List ℕ) → Survey
survey_fields v [] = v
survey_fields v (f ∷ r) = survey_fields (take_field v f) r

unfoldable pub survey_records : Survey → List (List (List ℕ)) → Survey
survey_records v [] = v
survey_records v (r ∷ g) = survey_records (end_record (survey_fields v r)) g

-- whether the sheet has start fields
abbrev pub marked : Survey → Bool
marked v = not v.badwidth && eqb v.width (v.records + 2)

-- the refusals 6, 7 and 15 of a sheet with start fields or without
abbrev pub width_bad : Survey → Bool → Bool
width_bad v starts = if starts then false else v.badwidth || not (eqb v.width (v.records + 1))

abbrev pub row_bad : Survey → Bool → Bool
row_bad v starts = if starts then v.badlater else v.badsecond || v.badlater

abbrev pub start_bad : Survey → Bool → Bool
start_bad v starts = if starts then v.badsecond else false

-- what the survey says of the sheet: the refusals in turn
abbrev pub answer_by : (a b c d e f : Bool) → Result Unit Refusal
answer_by a b c d e f =
    if a then Err RecordCount else
    if b then Err WordLength else
    if c then Err CodeLength else
    if d then Err FieldCount else
    if e then Err RowEntry else
    if f then Err StartField else
    (Ok tt)

abbrev pub answer_of : Survey → Bool → Result Unit Refusal
answer_of v starts = answer_by (ltb 32 v.records) v.badword (ltb 128 v.symbols) (width_bad v starts) (row_bad v starts) (start_bad v starts)

-- One record: its word first, then the second field, then the others.
laters : (n k w y : ℕ) (a b c d : Bool) (r : List (List ℕ))
    → survey_fields (parts n (k + 2) w y a b c d) r ≡ parts n (k + 2 + length r) w y a b c (d || any bad_entry r)
unfolding survey_fields take_span any
laters n k w y a b c d [] = rw (add-zero (k + 2), or-false)
laters n k w y a b c d (f ∷ r) =
    let next : k + 2 + 1 ≡ k + 1 + 2 = omega arith in
    rw (ne_eqb (k + 2) 0 (λ e. omega arith), ne_eqb (k + 2) 1 (λ e. omega arith), next)
    (laters n (k + 1) w y a b c (d || bad_entry f) r
    ∙ ap₂ (λ (m : ℕ) (t : Bool). parts n m w y a b c t) (omega arith) (or_assoc d (bad_entry f) (any bad_entry r)))

seconds : (n w y : ℕ) (a b c d : Bool) (r : List (List ℕ))
    → survey_fields (parts n 1 w y a b c d) r ≡ parts n (suc (length r)) w y a b (c || any bad_entry (take 1 r)) (d || any bad_entry (drop 1 r))
unfolding survey_fields take_span any
seconds n w y a b c d [] = rw (or-false, or-false)
seconds n w y a b c d (f ∷ r) =
    laters n 0 w y a b (c || bad_entry f) d r
    ∙ ap₂ (λ (m : ℕ) (t : Bool). parts n m w y a b t (d || any bad_entry r)) (omega arith) (rw or-false)

abbrev pub bad_second : List (List ℕ) → Bool
bad_second r = any bad_entry (take 1 (drop 1 r))

one : (n w y : ℕ) (a b c d : Bool) (f : List ℕ) (r : List (List ℕ))
    → survey_fields (parts n 0 w y a b c d) (f ∷ r)
    ≡ parts n (suc (length r)) w (y + length f) (a || bad_word limits (f ∷ r)) b (c || bad_second (f ∷ r)) (d || bad_row 2 (f ∷ r))
unfolding survey_fields take_span
one n w y a b c d f r = seconds n w (y + length f) (a || bad_word limits (f ∷ r)) b c d r

-- Records after the first: each is held to the first one's width.
abbrev pub other_width : ℕ → List (List ℕ) → Bool
other_width w r = not (eqb (length r) w)

-- a record has a first field
pub data Rows : List (List (List ℕ)) → Type 0 where
  no_row : Rows []
  row : {f : List ℕ} {r : List (List ℕ)} {g : List (List (List ℕ))} → Rows g → Rows ((f ∷ r) ∷ g)

-- the survey of g behind n records of width w, of which the others amount to y, a, b, c and d
abbrev pub surveyed : (n w y : ℕ) (a b c d : Bool) → List (List (List ℕ)) → Survey
surveyed n w y a b c d g =
    parts (n + length g) 0 w (y + sum (map word_length g)) (a || any (bad_word limits) g) (b || any (other_width w) g) (c || any bad_second g) (d || any (bad_row 2) g)

parts_same : (w : ℕ) {m n y z : ℕ} {a b c d e f h i : Bool} → m ≡ n → y ≡ z → a ≡ b → c ≡ d → e ≡ f → h ≡ i → parts m 0 w y a c e h ≡ parts n 0 w z b d f i
parts_same w p q r s t u = rw (p, q, r, s, t, u)

later_on : (n w y : ℕ) (a b c d : Bool) (f : List ℕ) (r : List (List ℕ)) (g : List (List (List ℕ)))
    → ((n y : ℕ) (a b c d : Bool) → survey_records (parts (n + 1) 0 w y a b c d) g ≡ surveyed (n + 1) w y a b c d g)
    → survey_records (parts (n + 1) 0 w y a b c d) ((f ∷ r) ∷ g) ≡ surveyed (n + 1) w y a b c d ((f ∷ r) ∷ g)
unfolding survey_records end_record any sum
later_on n w y a b c d f r g ih =
    rw (one (n + 1) w y a b c d f r, ne_eqb (n + 1) 0 (λ e. omega arith))
    (ih (n + 1) (y + length f) (a || bad_word limits (f ∷ r)) (b || other_width w (f ∷ r)) (c || bad_second (f ∷ r)) (d || bad_row 2 (f ∷ r))
    ∙ parts_same w (omega arith) (omega arith) (or_assoc a (bad_word limits (f ∷ r)) (any (bad_word limits) g))
    (or_assoc b (other_width w (f ∷ r)) (any (other_width w) g)) (or_assoc c (bad_second (f ∷ r)) (any bad_second g))
    (or_assoc d (bad_row 2 (f ∷ r)) (any (bad_row 2) g)))

later : (w : ℕ) {g : List (List (List ℕ))} → Rows g → (n y : ℕ) (a b c d : Bool)
    → survey_records (parts (n + 1) 0 w y a b c d) g ≡ surveyed (n + 1) w y a b c d g
unfolding survey_records any sum
later w no_row n y a b c d = rw (add-zero (n + 1), add-zero y, or-false, or-false, or-false, or-false)
later w (row {f} {r} {g} rs) n y a b c d = later_on n w y a b c d f r g (later w rs)

-- The first record gives the width.
pub first : (f : List ℕ) (r : List (List ℕ)) {g : List (List (List ℕ))} → Rows g → survey_records start ((f ∷ r) ∷ g)
    ≡ surveyed 1 (suc (length r)) (length f) (bad_word limits (f ∷ r)) false (bad_second (f ∷ r)) (bad_row 2 (f ∷ r)) g
unfolding survey_records end_record
first f r {g} rs =
    rw (one 0 0 0 false false false false f r, eq-eqb (suc (length r)) (suc (length r)) refl)
    (later (suc (length r)) rs 0 (0 + length f) (bad_word limits (f ∷ r)) false (bad_second (f ∷ r)) (bad_row 2 (f ∷ r))
    ∙ parts_same (suc (length r)) refl (omega arith) refl refl refl refl)
