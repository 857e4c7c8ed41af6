-- What the survey of all records says: its counts and flags are those of the refusals 3 to 7 and 15, so its answer is the definition's.
use Rattle.std.specs.Prelude.{if◌then◌else◌, Err, Ok, Result}
use mathlib.Core.Path.{◌≡◌, refl, sym, ap, ◌∙◌}
use mathlib.Core.Bool.{Bool, true, false, not, ◌&&◌, ◌||◌, or-false, or-true, and-true, and-false, and-eq-true_iff}
use mathlib.Core.List.{List, [], ◌∷◌, map}
use Prim.Native.Nat.{ℕ, ◌+◌, ◌≤◌}
use native.Mathlib.Omega.{arith}
use lib.Dec.{ltb, eqb}
use lib.ListN.{length}
use borrow.Author.Tests.{eqb-true, eq-eqb}
use Rattle.code.specs.declared.Refusal.TheVariants.{RecordCount, WordLength, CodeLength, FieldCount, RowEntry, StartField}
use Rattle.code.specs.declared.Taken.{Taken}
use Rattle.code.specs.declared.Refusal.{Refusal}
use Rattle.code.specs.Definitions.Lists.{any, every, sum}
use Rattle.code.specs.Definitions.Sheets.{limits, all_wide, has_starts, bad_entry, bad_row, start_field, bad_word, word_length, refused6, refused7, refused15, refused_by, code_of, taken_grid}
use Rattle.sheet_survey.specs.declared.Survey.{Survey}
use Rattle.sheet_survey.specs.Survey.{start, survey_records, marked, width_bad, row_bad, start_bad, answer_by, answer_of, bad_second, other_width, Rows, no_row, row, first}

-- All records have k fields where the first has and no other has another number.
not_or : (t u w : Bool) → not u ≡ w → not (not t || u) ≡ t && w
not_or true u w e = e
not_or false u w e = refl

none_other : (k : ℕ) (g : List (List (List ℕ))) → not (any (other_width k) g) ≡ all_wide k g
unfolding any every
none_other k [] = refl
none_other k (r ∷ g) = not_or (eqb (length r) k) (any (other_width k) g) (all_wide k g) (none_other k g)

widths : (w k : ℕ) (g : List (List (List ℕ))) (t : Bool) → eqb w k ≡ t → not (any (other_width w) g) && eqb w k ≡ eqb w k && all_wide k g
widths w k g true e = rw (eqb-true w k e, eq-eqb k k refl, and-true) (none_other k g)
widths w k g false e = rw (e, and-false)

-- A row that begins with the second field
exchange : (a b c d : Bool) → (a || b) || (c || d) ≡ (a || c) || (b || d)
exchange true b c d = refl
exchange false true c d = rw or-true
exchange false false c d = refl

row_parts : (r : List (List ℕ)) → bad_second r || bad_row 2 r ≡ bad_row 1 r
unfolding any
row_parts [] = refl
row_parts (f ∷ []) = refl
row_parts (f ∷ h ∷ r) = rw or-false

rows_parts : (g : List (List (List ℕ))) → any bad_second g || any (bad_row 2) g ≡ any (bad_row 1) g
unfolding any
rows_parts [] = refl
rows_parts (r ∷ g) =
    exchange (bad_second r) (any bad_second g) (bad_row 2 r) (any (bad_row 2) g) ∙ rw (row_parts r, rows_parts g)

-- A second field that is a start field
start_second : (r : List (List ℕ)) → 2 ≤ length r → bad_second r ≡ bad_entry (start_field r)
unfolding any
start_second [] h = absurd (omega arith)
start_second (f ∷ []) h = absurd (omega arith)
start_second (f ∷ h ∷ r) l = rw or-false

starts_second : (k : ℕ) → 2 ≤ k → (g : List (List (List ℕ))) → all_wide k g ≡ true → any bad_second g ≡ any (λ r. bad_entry (start_field r)) g
unfolding any every
starts_second k h [] e = refl
starts_second k h (r ∷ g) e =
    let both = (and-eq-true_iff (eqb (length r) k) (all_wide k g)).0 e in
    rw (start_second r (omega (arith, eqb-true (length r) k both.0)), starts_second k h g both.1)

pub record Flags (g : List (List (List ℕ))) (v : Survey) : Type 0 where
  pub records : v.records ≡ length g
  pub symbols : v.symbols ≡ sum (map word_length g)
  pub word : v.badword ≡ any (bad_word limits) g
  pub wide : (k : ℕ) → not v.badwidth && eqb v.width k ≡ all_wide k g
  pub second : v.badsecond ≡ any bad_second g
  pub later : v.badlater ≡ any (bad_row 2) g

flags : (f : List ℕ) (r : List (List ℕ)) {g : List (List (List ℕ))} → Rows g → Flags ((f ∷ r) ∷ g) (survey_records start ((f ∷ r) ∷ g))
unfolding any every sum
flags f r {g} rs =
    let w : ℕ = length (f ∷ r) in
    rw (first f r rs) record { records = omega arith; symbols = refl; word = refl; wide = λ k. widths w k g (eqb w k) refl; second = refl; later = refl }

pub survey_flags : {g : List (List (List ℕ))} → Rows g → 1 ≤ length g → Flags g (survey_records start g)
survey_flags no_row h = absurd (omega arith)
survey_flags (row {f} {r} rs) h = flags f r rs

-- The answer with its table.
abbrev pub result_of : Result Unit Refusal → List (List (List ℕ)) → Taken
result_of (Ok tt) g = record { answer = Ok tt; code = code_of limits g }
result_of (Err r) g = refused_by limits r

chain : (a b c d e f : Bool) (g : List (List (List ℕ)))
    → (if a then refused_by limits RecordCount else if b then refused_by limits WordLength else if c then refused_by limits CodeLength else
    if d then refused_by limits FieldCount else if e then refused_by limits RowEntry else if f then refused_by limits StartField else
    record { answer = Ok tt; code = code_of limits g })
    ≡ result_of (answer_by a b c d e f) g
chain true b c d e f g = refl
chain false true c d e f g = refl
chain false false true d e f g = refl
chain false false false true e f g = refl
chain false false false false true f g = refl
chain false false false false false true g = refl
chain false false false false false false g = refl

other_width_lem : (b e : Bool) → not (not b && e) ≡ b || not e
other_width_lem true e = refl
other_width_lem false e = refl

module _ (g : List (List (List ℕ))) (v : Survey) (f : Flags g v) where
  pub starts : marked v ≡ has_starts g
  starts = rw f.records (f.wide (length g + 2))

  width_told : (t : Bool) → has_starts g ≡ t → refused6 g ≡ width_bad v t
  width_told true s = rw (s, or-true)
  width_told false s =
      rw (s, or-false, f.records) (ap not (sym (f.wide (length g + 1))) ∙ other_width_lem v.badwidth (eqb v.width (length g + 1)))

  row_told : (t : Bool) → has_starts g ≡ t → refused7 g ≡ row_bad v t
  row_told true s = rw s (sym f.later)
  row_told false s = rw (s, f.second, f.later) (sym (rows_parts g))

  start_told : (t : Bool) → has_starts g ≡ t → refused15 g ≡ start_bad v t
  start_told true s = rw s (sym (f.second ∙ starts_second (length g + 2) (omega arith) g s))
  start_told false s = rw s

  -- The survey's answer is the definition's.
  pub survey_answers : taken_grid limits g ≡ result_of (answer_of v (marked v)) g
  unfolding taken_grid
  survey_answers =
      let t = marked v in
      rw (width_told t (sym starts), row_told t (sym starts), start_told t (sym starts), ← f.word, ← f.symbols, ← f.records)
      (chain (ltb 32 v.records) v.badword (ltb 128 v.symbols) (width_bad v t) (row_bad v t) (start_bad v t) g)
