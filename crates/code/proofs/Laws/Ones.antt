-- 02, request 1: "Sheets of n + 1 fields stay valid and let every word begin." Such a sheet is answered like the same sheet with a column of ones.
use Rattle.std.specs.Prelude.{◌≡◌, Bool, true, false, List, [], ◌∷◌, map, ℕ, suc, ◌+◌, ◌<◌, eqb, length, get_or}
use Rattle.std.proofs.Math.Path.{refl}
use Rattle.std.proofs.Common.{sym, ap, ◌∙◌, arith, length-drop, get_or-drop, lt-ltb, le-ltb, eq-eqb}
use Rattle.std.proofs.Math.Bool.{or-true}
use Rattle.std.proofs.lemmas.Simd.{map-map}
use Rattle.std.proofs.Math.Decide.{dec_lt}
use Rattle.std.proofs.lemmas.List.{length-map}
use Rattle.std.proofs.Math.ListN.{get_or-eq_default}
use Rattle.code.specs.declared.Limits.{Limits}
use Rattle.code.specs.Definitions.Sheets.{value_of, all_wide, has_starts, first_field, start_field, word_length, bad_entry, bad_row, bad_word, word_of, row_of, begins_of, code_of, refused4, refused6, refused7, refused15, taken_grid}
use Rattle.code.specs.Laws.Lists.{map_at, tabulate_same, any-map, any_none, every_all}
use Rattle.code.specs.Laws.Records.{wide_at}
use Rattle.code.specs.Laws.Ones.{with_one, with_ones}

module _ (l : Limits) (g : List (List (List ℕ))) (wide : all_wide (length g + 1) g ≡ true) (some : 0 < length g) where
  unmarked : has_starts g ≡ false
  unmarked = by_test (has_starts g) refl
    where
      by_test : (t : Bool) → has_starts g ≡ t → t ≡ false
      by_test false e = refl
      by_test true e = absurd (omega (arith, wide_at g (length g + 1) 0 wide some, wide_at g (length g + 2) 0 e some))

  long : length (with_ones g) ≡ length g
  long = length-map g with_one

  record_one : (k : ℕ) → k < length g → get_or (with_ones g) k [] ≡ with_one (get_or g k [])
  record_one k h = map_at with_one g k [] [] h

  marked : has_starts (with_ones g) ≡ true
  marked =
      every_all (λ r. eqb (length r) (length (with_ones g) + 2)) (with_ones g) []
      (λ k i. let h : k < length g = rw long at i in
      rw (long, record_one k h) (eq-eqb _ (length g + 2) (omega (arith, length-drop 1 (get_or g k []), wide_at g (length g + 1) k wide h))))

  same_words : refused4 l (with_ones g) ≡ refused4 l g
  same_words = any-map (bad_word l) (bad_word l) with_one (λ r. refl) g

  same_total : map word_length (with_ones g) ≡ map word_length g
  same_total = map-map word_length with_one g

  widths : refused6 (with_ones g) ≡ refused6 g
  widths = rw (marked, wide, or-true)

  same_rows : refused7 (with_ones g) ≡ refused7 g
  same_rows = rw (marked, unmarked) (any-map (bad_row 2) (bad_row 1) with_one (λ r. refl) g)

  starts : refused15 (with_ones g) ≡ refused15 g
  starts =
      rw (marked, unmarked)
      (any_none (λ r. bad_entry (start_field r)) (with_ones g) [] (λ k i. let h : k < length g = rw long at i in rw (record_one k h)))

  -- What depends on a record alone is the same of every record, and past the last.
  module _ {A : Type 0} (p q : List (List ℕ) → A) (same : (r : List (List ℕ)) → p (with_one r) ≡ q r) (none : p [] ≡ q []) where
    by_record : (k : ℕ) → Dec (k < length g) → p (get_or (with_ones g) k []) ≡ q (get_or g k [])
    by_record k (yes h) = ap p (record_one k h) ∙ same (get_or g k [])
    by_record k (no h) = ap p (get_or-eq_default (with_ones g) [] (rw long (omega arith))) ∙ none ∙ sym (ap q (get_or-eq_default g [] (omega arith)))

  entry_same : (r : List (List ℕ)) (y : ℕ) → get_or (with_one r) (y + 2) [] ≡ get_or r (y + 1) []
  entry_same r y =
      let two : y + 2 ≡ suc (suc y) = omega arith in
      let one : 1 + y ≡ y + 1 = omega arith in
      rw two (get_or-drop 1 r y [] ∙ rw one)

  row_same : (r : List (List ℕ)) → row_of l 2 (with_one r) ≡ row_of l 1 r
  row_same r =
      let same = tabulate_same (λ y. value_of (get_or (get_or (with_one r) (y + 2) []) 0 48)) (λ y. value_of (get_or (get_or r (y + 1) []) 0 48)) l.words
      (λ y h. ap (λ (f : List ℕ). value_of (get_or f 0 48)) (entry_same r y)) in
      rw same

  begins_same : (k : ℕ) → Dec (k < length g) → begins_of l (with_ones g) k ≡ begins_of l g k
  begins_same k (yes h) = rw (marked, unmarked, lt-ltb k (length g) h, record_one k h)
  begins_same k (no h) = rw (marked, unmarked, le-ltb k (length g) (omega arith), get_or-eq_default (with_ones g) [] {n = k} (rw long (omega arith)))

  same_code : code_of l (with_ones g) ≡ code_of l g
  unfolding code_of
  same_code =
      let words = tabulate_same (λ k. word_of l (first_field (get_or (with_ones g) k []))) (λ k. word_of l (first_field (get_or g k []))) l.words
      (λ k h. by_record (λ r. word_of l (first_field r)) (λ r. word_of l (first_field r)) (λ r. refl) refl k (dec_lt k (length g))) in
      let rows = tabulate_same (λ k. row_of l 2 (get_or (with_ones g) k [])) (λ k. row_of l 1 (get_or g k [])) l.words
      (λ k h. by_record (row_of l 2) (row_of l 1) row_same refl k (dec_lt k (length g))) in
      let begins = tabulate_same (begins_of l (with_ones g)) (begins_of l g) l.words (λ k h. begins_same k (dec_lt k (length g))) in
      rw (marked, unmarked, words, rows, begins, long)

  alike : taken_grid l (with_ones g) ≡ taken_grid l g
  unfolding taken_grid
  alike = rw (same_words, same_total, widths, same_rows, starts, same_code, long)

-- The same refusal, or the same table.
pub ones_alike : (l : Limits) (g : List (List (List ℕ))) → all_wide (length g + 1) g ≡ true → taken_grid l (with_ones g) ≡ taken_grid l g
ones_alike l [] wide = refl
ones_alike l (r ∷ g) wide = alike l (r ∷ g) wide (omega arith)
