-- How the survey goes through a sheet: what is still to come, what a step keeps, one lemma for each way a step can go.
use Rattle.std.specs.Prelude.{◌≡◌, refl, Bool, true, false, List, [], ◌∷◌, ℕ, ◌+◌, ◌-◌, ◌≤◌, ◌<◌, eqb, length, drop, get_or}
use Rattle.std.proofs.Common.{sym, ap, ◌∙◌, add-zero, arith, get_or-drop}
use Rattle.std.proofs.Math.Decide.{dec_lt}
use Rattle.code.specs.Definitions.Sheets.{is_digit}
use Rattle.code.specs.Laws.Clean.{Clean, record_fields, record_fields_some}
use Rattle.sheet_survey.specs.declared.Survey.{Survey}
use Rattle.sheet_survey.specs.declared.Cursor.{Cursor}
use Rattle.csv_records.specs.Fields.{leading}
use Rattle.csv_records.specs.Front.{rest_of, rest_within, rest_past, comma_within, field_last, field_comma, field_line}
use Rattle.sheet_survey.specs.Survey.{parts, take_span, take_field, end_record, survey_fields, survey_records, start}

-- counts are bounded by the bytes passed
pub record Bounded (c : Cursor) : Type 0 where
  pub records : c.survey.records ≤ c.at
  pub fields : c.survey.fields ≤ c.at
  pub symbols : c.survey.symbols ≤ c.at

pub record Step (s : List ℕ) (c r : Cursor) : Type 0 where
  pub rest : survey_records r.survey (rest_of s r.at) ≡ survey_records c.survey (rest_of s c.at)
  pub clean : r.at ≤ length s → Clean (drop r.at s)
  pub bounded : Bounded r
  pub further : c.at < r.at
  pub within : r.at ≤ length s + 2

-- a field is known by its length and its first byte
by_front : (v : Survey) (a : ℕ) (t : List ℕ) (d : Bool) → is_digit a ≡ d → take_span v (length (leading (a ∷ t))) a ≡ take_field v (leading (a ∷ t))
unfolding leading take_span
by_front v a t true e = rw e
by_front v a t false e = rw e

by_string : (v : Survey) (t : List ℕ) → take_span v (length (leading t)) (get_or t 0 0) ≡ take_field v (leading t)
unfolding leading
by_string v [] = refl
by_string v (a ∷ t) = by_front v a t (is_digit a) refl

pub span_field : (v : Survey) (s : List ℕ) (at : ℕ) → take_span v (length (leading (drop at s))) (get_or s at 0) ≡ take_field v (leading (drop at s))
span_field v s at = ap (take_span v (length (leading (drop at s)))) (sym (get_or-drop at s 0 0 ∙ rw add-zero)) ∙ by_string v (drop at s)

-- what a field does to the counts
record Counts (v w : Survey) (n : ℕ) : Type 0 where
  pub records : w.records ≡ v.records
  pub fields : w.fields ≤ v.fields + 1
  pub symbols : w.symbols ≤ v.symbols + n

span_counts : (v : Survey) (n b : ℕ) (t u : Bool) → eqb v.fields 0 ≡ t → eqb v.fields 1 ≡ u → Counts v (take_span v n b) n
unfolding take_span
span_counts v n b true u e f = rw e record { records = refl; fields = omega arith; symbols = omega arith }
span_counts v n b false true e f = rw (e, f) record { records = refl; fields = omega arith; symbols = omega arith }
span_counts v n b false false e f = rw (e, f) record { records = refl; fields = omega arith; symbols = omega arith }

counts : (v : Survey) (n b : ℕ) → Counts v (take_span v n b) n
counts v n b = span_counts v n b (eqb v.fields 0) (eqb v.fields 1) refl refl

pub span_records : (v w : Survey) (n b : ℕ) → w ≡ take_span v n b → w.records ≡ v.records
span_records v w n b e = let k = counts v n b in ap (λ (u : Survey). u.records) e ∙ k.records

comma_rest : (v w : Survey) (f : List ℕ) (g : List (List (List ℕ))) → w ≡ take_field v f → g ≡ get_or g 0 [] ∷ drop 1 g
    → survey_records w g ≡ survey_records v ((f ∷ get_or g 0 []) ∷ drop 1 g)
unfolding survey_records survey_fields
comma_rest v w f g e q = ap (survey_records w) q ∙ rw e

line_rest : (v w : Survey) (f : List ℕ) (g : List (List (List ℕ))) → w ≡ take_field v f → survey_records (end_record w) g ≡ survey_records v ((f ∷ []) ∷ g)
unfolding survey_records survey_fields
line_rest v w f g e = rw e

-- One step, in each of its three ways. The field that begins at the cursor ends at e, and v is the survey with it.
module _ (s : List ℕ) (c : Cursor) (e : ℕ) (v : Survey) (clean : Clean (drop c.at s)) (bounded : Bounded c)
    (ends : e ≡ c.at + length (leading (drop c.at s))) (within : e ≤ length s)
    (taken : v ≡ take_span c.survey (e - c.at) (get_or s c.at 0)) where
  field_taken : v ≡ take_field c.survey (leading (drop c.at s))
  field_taken =
      let n : e - c.at ≡ length (leading (drop c.at s)) = omega arith in
      taken ∙ rw n (span_field c.survey s c.at)

  counted : Counts c.survey v (e - c.at)
  counted = rw taken (counts c.survey (e - c.at) (get_or s c.at 0))

  line_bounded : Bounded (record { survey = end_record v; at = e + 2 })
  unfolding end_record
  line_bounded = let k = counted in record { records = omega (arith, bounded.records); fields = omega arith; symbols = omega (arith, bounded.symbols) }

  pub step_comma : get_or s e 0 ≡ 44 → Step s c (record { survey = v; at = e + 1 })
  step_comma b =
      let h = comma_within s e b in
      let k = counted in
      let n = field_comma s c.at e clean ends h b in
      let g : List (List (List ℕ)) = record_fields (drop (e + 1) s) in
      record {
        rest = ap (survey_records v) (rest_within s (e + 1) (omega arith))
            ∙ comma_rest c.survey v (leading (drop c.at s)) g field_taken (record_fields_some (drop (e + 1) s))
            ∙ ap (survey_records c.survey) (sym n.same ∙ sym (rest_within s c.at (omega arith)));
        clean = λ h. n.clean;
        bounded = record { records = omega (arith, bounded.records); fields = omega (arith, bounded.fields); symbols = omega (arith, bounded.symbols) };
        further = omega arith;
        within = omega arith;
      }

  pub step_line : e < length s → (get_or s e 0 ≡ 44 → ⊥) → Step s c (record { survey = end_record v; at = e + 2 })
  step_line h b =
      let n = field_line s c.at e clean ends h b in
      let g : List (List (List ℕ)) = record_fields (drop (e + 2) s) in
      record {
        rest = ap (survey_records (end_record v)) (rest_within s (e + 2) n.1)
            ∙ line_rest c.survey v (leading (drop c.at s)) g field_taken
            ∙ ap (survey_records c.survey) (sym n.0.same ∙ sym (rest_within s c.at (omega arith)));
        clean = λ h. n.0.clean;
        bounded = line_bounded;
        further = omega arith;
        within = omega arith;
      }

  pub step_last : length s ≤ e → Step s c (record { survey = end_record v; at = e + 2 })
  step_last h =
      record {
        rest = ap (survey_records (end_record v)) (rest_past s (e + 2) (omega arith))
            ∙ line_rest c.survey v (leading (drop c.at s)) [] field_taken
            ∙ ap (survey_records c.survey) (sym (field_last s c.at e clean ends h) ∙ sym (rest_within s c.at (omega arith)));
        clean = λ k. absurd (omega arith);
        bounded = line_bounded;
        further = omega arith;
        within = omega arith;
      }

  pub step_end : (get_or s e 0 ≡ 44 → ⊥) → Step s c (record { survey = end_record v; at = e + 2 })
  step_end b = by_place (dec_lt e (length s))
    where
      by_place : Dec (e < length s) → Step s c (record { survey = end_record v; at = e + 2 })
      by_place (yes h) = step_line h b
      by_place (no h) = step_last (omega arith)

-- A pass that has come to the cursor.
pub record Passed (s : List ℕ) (c : Cursor) : Type 0 where
  pub rest : survey_records c.survey (rest_of s c.at) ≡ survey_records start (record_fields s)
  pub clean : c.at ≤ length s → Clean (drop c.at s)
  pub bounded : Bounded c
  pub within : c.at ≤ length s + 2

-- what the default of a cursor is
abbrev Blank : Cursor → Type 0
Blank c =
    ((c.survey.records ≡ 0) × ((c.survey.fields ≡ 0) × ((c.survey.width ≡ 0) × ((c.survey.symbols ≡ 0)
    × ((c.survey.badword ≡ false) × ((c.survey.badwidth ≡ false) × ((c.survey.badsecond ≡ false) × (c.survey.badlater ≡ false))))))))
    × (c.at ≡ 0)

by_parts : {n k w y at : ℕ} {a b c d : Bool} → n ≡ 0 → k ≡ 0 → w ≡ 0 → y ≡ 0 → a ≡ false → b ≡ false → c ≡ false → d ≡ false → at ≡ 0
    → ◌≡◌ {A = Cursor} record { survey = parts n k w y a b c d; at = at } record { survey = start; at = 0 }
by_parts n k w y a b c d at = rw (n, k, w, y, a, b, c, d, at)

-- Before the first step all is to come; past the end nothing is.
pub passing_starts : (s : List ℕ) → survey_records start (rest_of s 0) ≡ survey_records start (record_fields s)
passing_starts s = ap (survey_records start) (rest_within s 0 (omega arith))

pub passing_ends : (s : List ℕ) (v : Survey) (at : ℕ) → length s < at → survey_records v (rest_of s at) ≡ v
unfolding survey_records
passing_ends s v at h = rw (rest_past s at h)

pub passed_first : (s : List ℕ) (c : Cursor) → Blank c → Clean s → Passed s c
passed_first s c e h =
    let flags = e.0.1.1.1.1 in
    let blank : c ≡ record { survey = start; at = 0 } = by_parts e.0.0 e.0.1.0 e.0.1.1.0 e.0.1.1.1.0 flags.0 flags.1.0 flags.1.1.0 flags.1.1.1 e.1 in
    rw blank
    record {
      rest = ap (survey_records start) (rest_within s 0 (omega arith));
      clean = λ _. h;
      bounded = record { records = omega arith; fields = omega arith; symbols = omega arith };
      within = omega arith;
    }

pub passing_on : {s : List ℕ} {c r : Cursor} → Passed s c → Step s c r → Passed s r
passing_on p step = record { rest = step.rest ∙ p.rest; clean = step.clean; bounded = step.bounded; within = step.within }

pub passed_end : {s : List ℕ} {c : Cursor} → Passed s c → length s < c.at → c.survey ≡ survey_records start (record_fields s)
unfolding survey_records
passed_end {s} {c} p h = rw (rest_past s c.at h) at p.rest
