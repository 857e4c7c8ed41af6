-- Taking in a sheet: what the survey says of its records, and one lemma for each way out.
use Rattle.std.specs.Prelude.{Err, Ok, Result}
use mathlib.Core.Path.{◌≡◌, sym, ap, ◌∙◌}
use mathlib.Core.Bool.{Bool, true, false}
use mathlib.Core.List.{List, [], ◌∷◌, map}
use Prim.Native.Nat.{ℕ, ◌≤◌, ◌<◌}
use native.Mathlib.Omega.{arith}
use lib.ListN.{length}
use borrow.Author.Tests.{ne_eqb, lt-ltb, le-ltb}
use Rattle.code.specs.declared.Refusal.{Refusal}
use Rattle.code.specs.declared.Refusal.TheVariants.{SheetLength, SheetBytes}
use Rattle.code.specs.declared.Taken.{Taken}
use Rattle.code.specs.Definitions.Sheets.{limits, records, fields, grid, body, bad_bytes, has_starts, code_of, refused_by, taken, taken_grid}
use Rattle.code.specs.Laws.Clean.{record_fields, records_some, fields_some}
use Rattle.code.specs.Laws.Fits.{Fits, fits}
use Rattle.sheet_survey.specs.declared.Survey.{Survey}
use Rattle.sheet_survey.specs.Survey.{start, survey_records, marked, answer_of, Rows, no_row, row}
use Rattle.sheet.proofs.Laws.Judging.{Flags, survey_flags, result_of, starts, survey_answers}

-- every record has a first field
row_on : (a : List ℕ) {g : List (List (List ℕ))} → Rows g → Rows (fields a ∷ g)
row_on a r = rw (fields_some a) (row r)

rows : (l : List (List ℕ)) → Rows (map fields l)
rows [] = no_row
rows (a ∷ l) = row_on a (rows l)

record_count : (s : List ℕ) → 1 ≤ length (record_fields s)
record_count s = rw (records_some s) (omega arith)

flags_of : (s : List ℕ) → Flags (record_fields s) (survey_records start (record_fields s))
flags_of s = survey_flags (rows (records s)) (record_count s)

module _ (s : List ℕ) (v : Survey) (t : Bool) (surveyed : v ≡ survey_records start (record_fields s)) (told : t ≡ marked v) where
  flags_v : Flags (record_fields s) v
  flags_v = rw surveyed (flags_of s)

  -- the answer decides
  result : (a : Result Unit Refusal) → answer_of v t ≡ a → result_of a (record_fields s) ≡ taken_grid limits (record_fields s)
  result a e = sym (survey_answers (record_fields s) v flags_v ∙ rw (← told, e))

  -- a refused sheet, and an accepted one
  pub way_refused : (r : Refusal) → answer_of v t ≡ Err r → refused_by limits r ≡ taken_grid limits (record_fields s)
  way_refused r = result (Err r)

  pub way_accepted : answer_of v t ≡ Ok tt → record { answer = Ok tt; code = code_of limits (record_fields s) } ≡ taken_grid limits (record_fields s)
  way_accepted = result (Ok tt)

  pub count_accepted : v.records ≡ length (record_fields s)
  count_accepted = flags_v.records

  pub starts_accepted : t ≡ has_starts (record_fields s)
  starts_accepted = told ∙ starts (record_fields s) v flags_v

  pub fits_accepted : answer_of v t ≡ Ok tt → Fits limits (record_fields s)
  fits_accepted e = fits limits (record_fields s) (ap (λ (u : Taken). u.answer) (sym (way_accepted e)))

-- the refusals 1 and 2, and what is left
pub way_empty : (s : List ℕ) → length s ≡ 0 → refused_by limits SheetLength ≡ taken limits s
unfolding taken
way_empty s h = rw h

pub way_long : (s : List ℕ) → 4096 < length s → refused_by limits SheetLength ≡ taken limits s
unfolding taken
way_long s h = rw (ne_eqb (length s) 0 (λ e. omega arith), lt-ltb 4096 (length s) h)

pub way_bytes : (s : List ℕ) → (length s ≡ 0 → ⊥) → length s ≤ 4096 → bad_bytes false s ≡ true → refused_by limits SheetBytes ≡ taken limits s
unfolding taken
way_bytes s n h b = rw (ne_eqb (length s) 0 n, le-ltb 4096 (length s) h, b)

pub way_records : (s : List ℕ) → (length s ≡ 0 → ⊥) → length s ≤ 4096 → bad_bytes false s ≡ false → taken_grid limits (record_fields (body s)) ≡ taken limits s
unfolding taken grid
way_records s n h b = rw (ne_eqb (length s) 0 n, le-ltb 4096 (length s) h, b)
