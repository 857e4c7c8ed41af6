-- 02, request 1: "Sheets of n + 1 fields stay valid and let every word begin." Such a sheet with a column of ones put in, which is answered like it: `ones_alike`
-- (proofs/Laws/Ones).
use Rattle.std.specs.Prelude.{List, [], ◌∷◌, map, ℕ, drop}
use Rattle.code.specs.Definitions.Sheets.{first_field}

-- a record with the field 1 in second place
abbrev pub with_one : List (List ℕ) → List (List ℕ)
with_one r = first_field r ∷ (49 ∷ []) ∷ drop 1 r

-- a column of ones
abbrev pub with_ones : List (List (List ℕ)) → List (List (List ℕ))
with_ones g = map with_one g
