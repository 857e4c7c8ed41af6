-- The sheet that is written from records of fields: fields joined by commas, records by CR LF, and a CR LF at the end. Where the fields are digits it has no wrong
-- byte, and its records and fields are read back.
use Rattle.std.specs.Prelude.{◌≡◌, refl, true, List, [], ◌∷◌, ◌++◌, map, ℕ, zero, suc, ◌+◌, ◌≤◌, ◌<◌, length}
use Rattle.std.proofs.Common.{◌∙◌, arith, length-append}
use Rattle.std.proofs.Math.Bool.{false}
use Rattle.std.proofs.lemmas.List.{length-map}
use Rattle.code.specs.Definitions.Lists.{every, tabulate, sum, join}
use Rattle.code.specs.Definitions.Sheets.{is_digit, fields, grid, bad_bytes}
use Rattle.code.specs.Laws.Clean.{bad_end, body_end}
use Rattle.csv_records.specs.Join.{is_plain, fields_join, records-join, bad_join, plain_join, length-join}

-- the bytes of a record
abbrev pub record_of : List (List ℕ) → List ℕ
record_of r = join (44 ∷ []) r

abbrev body_of : List (List (List ℕ)) → List ℕ
body_of g = join (13 ∷ 10 ∷ []) (map record_of g)

unfoldable pub sheet_of : List (List (List ℕ)) → List ℕ
sheet_of g = body_of g ++ (13 ∷ 10 ∷ [])

-- Records that a sheet can have: each has a field, and all fields are digits.
pub data Digital : List (List (List ℕ)) → Type 0 where
  none : Digital []
  more : {r : List (List ℕ)} {g : List (List (List ℕ))} → 1 ≤ length r → every (every is_digit) r ≡ true → Digital g → Digital (r ∷ g)

digital_append : {g h : List (List (List ℕ))} → Digital g → Digital h → Digital (g ++ h)
digital_append none e = e
digital_append (more h i d) e = more h i (digital_append d e)

pub digital_tabulate : (f : ℕ → List (List ℕ)) (n : ℕ) → ((k : ℕ) → k < n → (1 ≤ length (f k)) × (every (every is_digit) (f k) ≡ true)) → Digital (tabulate f n)
unfolding tabulate
digital_tabulate f zero h = none
digital_tabulate f (suc n) h = digital_append (digital_tabulate f n (λ k i. h k (omega arith))) (more (h n (omega arith)).0 (h n (omega arith)).1 none)

records_plain : {g : List (List (List ℕ))} → Digital g → every (every is_plain) (map record_of g) ≡ true
unfolding every
records_plain none = refl
records_plain (more {r} {g} h e d) = rw (plain_join r e, records_plain d)

fields_back : {g : List (List (List ℕ))} → Digital g → map fields (map record_of g) ≡ g
fields_back none = refl
fields_back (more {r} {g} h e d) = rw (fields_join r h e, fields_back d)

module _ {g : List (List (List ℕ))} (d : Digital g) where
  pub sheet_bytes : bad_bytes false (sheet_of g) ≡ false
  unfolding sheet_of
  sheet_bytes = bad_end false (body_of g) ∙ bad_join (map record_of g) (records_plain d)

  pub sheet_grid : 1 ≤ length g → grid (sheet_of g) ≡ g
  unfolding sheet_of grid
  sheet_grid some = rw (body_end (body_of g), records-join (map record_of g) (rw (length-map g record_of) some) (records_plain d)) (fields_back d)

-- It has some bytes, and no more than its records have, each with a CR LF.
pub sheet_some : (g : List (List (List ℕ))) → 0 < length (sheet_of g)
unfolding sheet_of
sheet_some g = omega (arith, length-append (body_of g) (13 ∷ 10 ∷ []))

pub sheet_length : (g : List (List (List ℕ))) → 1 ≤ length g → length (sheet_of g) ≤ sum (map (λ (r : List ℕ). length r + 2) (map record_of g))
unfolding sheet_of
sheet_length g some = omega (arith, length-append (body_of g) (13 ∷ 10 ∷ []), length-join (13 ∷ 10 ∷ []) (map record_of g) (rw (length-map g record_of) some))
