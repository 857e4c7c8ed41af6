-- What the refusals 6, 7 and 15 leave of the records of a sheet: all have the same number of fields, and every field behind the word is a digit 0 or 1.
use Rattle.std.specs.Prelude.{◌≡◌, refl, Bool, true, false, not, ◌&&◌, ◌||◌, List, [], ◌∷◌, ℕ, ◌+◌, ◌≤◌, ◌<◌, ltb, eqb, length, get_or, if◌then◌else◌}
use Rattle.std.proofs.Common.{true≢false, arith, le-ltb, eqb-true}
use Rattle.std.proofs.Math.Bool.{and-false, or-false}
use Rattle.std.proofs.Math.ListN.{get_or-eq_default}
use Rattle.std.proofs.lemmas.Bool.{not-false}
use Rattle.code.specs.declared.Limits.{Limits}
use Rattle.code.specs.Definitions.Lists.{any}
use Rattle.code.specs.Definitions.Sheets.{value_of, all_wide, has_starts, row_place, bad_entry, bad_row, start_field, begins_of}
use Rattle.code.specs.Laws.Lists.{any_at, any_none, every_at}
use Rattle.code.specs.Laws.Fits.{Fits}

-- The byte of a start field or row entry is the digit 0 or 1.
pub entry_byte : (P : ℕ → Type 0) (f : List ℕ) → bad_entry f ≡ false → P 48 → P 49 → P (get_or f 0 48)
entry_byte P [] e zero one = absurd (true≢false e)
entry_byte P (a ∷ f) e zero one = by_digit (eqb a 48) (eqb a 49) refl refl
  where
    by_digit : (t u : Bool) → eqb a 48 ≡ t → eqb a 49 ≡ u → P a
    by_digit true u p q = rw (eqb-true a 48 p) zero
    by_digit false true p q = rw (eqb-true a 49 q) one
    by_digit false false p q = absurd (true≢false (rw (p, q, and-false) at e))

-- a record with a start field
row_from_two : (r : List (List ℕ)) → 2 ≤ length r → bad_entry (start_field r) ≡ false → bad_row 2 r ≡ false → bad_row 1 r ≡ false
unfolding any
row_from_two [] h e o = absurd (omega arith)
row_from_two (f ∷ []) h e o = absurd (omega arith)
row_from_two (f ∷ g ∷ r) h e o = rw (e, o)

module _ (g : List (List (List ℕ))) where
  pub place_some : 1 ≤ row_place g
  place_some = by_test (has_starts g)
    where
      by_test : (t : Bool) → 1 ≤ (if t then 2 else 1)
      by_test true = omega arith
      by_test false = omega arith

  pub wide_at : (k x : ℕ) → all_wide k g ≡ true → x < length g → length (get_or g x []) ≡ k
  wide_at k x e h = eqb-true (length (get_or g x [])) k (every_at (λ r. eqb (length r) k) g [] e x h)

  by_starts : (t : Bool) → not (all_wide (length g + 1) g || t) ≡ false → has_starts g ≡ t → (x : ℕ) → x < length g
      → length (get_or g x []) ≡ length g + (if t then 2 else 1)
  by_starts true e s x h = wide_at (length g + 2) x s h
  by_starts false e s x h = wide_at (length g + 1) x (rw or-false at (not-false (all_wide (length g + 1) g || false) e)) h

-- Past the last record there is no start mark.
pub begins_past : (l : Limits) (g : List (List (List ℕ))) (x : ℕ) → length g ≤ x → begins_of l g x ≡ 0
begins_past l g x h = by_test (has_starts g)
  where
    by_test : (t : Bool) → (if t then value_of (get_or (start_field (get_or g x [])) 0 48) else if ltb x (length g) then 1 else 0) ≡ 0
    by_test true = rw (get_or-eq_default g [] {n = x} h)
    by_test false = rw (le-ltb x (length g) h)

module _ {l : Limits} {g : List (List (List ℕ))} (f : Fits l g) where
  -- the word, the start field if there is one, and a row entry for each record
  pub width : (x : ℕ) → x < length g → length (get_or g x []) ≡ length g + row_place g
  width = by_starts g (has_starts g) f.widths refl

  good_fields : (t : Bool) → has_starts g ≡ t → any (bad_row (if t then 2 else 1)) g ≡ false → t && any (λ r. bad_entry (start_field r)) g ≡ false
      → any (bad_row 1) g ≡ false
  good_fields false s e o = e
  good_fields true s e o =
      any_none (bad_row 1) g []
      (λ x h. row_from_two (get_or g x []) (omega (arith, wide_at g (length g + 2) x s h)) (any_at (λ r. bad_entry (start_field r)) g [] o x h) (any_at (bad_row 2) g [] e x h))

  -- Every field behind the word is a digit 0 or 1.
  pub bits : any (bad_row 1) g ≡ false
  bits = good_fields (has_starts g) refl f.entries f.starts
