-- The class sheet that is written for letters: a record for each, with the letter as its lowest and as its highest byte, in hexadecimal digits.
use Rattle.std.specs.Prelude.{List, [], ◌∷◌, ℕ, ◌/◌, ◌%◌, length, get_or}
use Rattle.code.specs.Definitions.Lists.{tabulate}
use Rattle.code.specs.Definitions.Texts.{class_of}
use Rattle.csv_records.specs.Digits.{digit_of}
use Rattle.csv_records.specs.Sheets.{sheet_of}

abbrev byte_field : ℕ → List ℕ
byte_field b = digit_of (b / 16) ∷ digit_of (b % 16) ∷ []

module _ (c : List ℕ) where
  -- the fields of a letter's record
  abbrev pub fields_of : ℕ → List (List ℕ)
  fields_of b = byte_field b ∷ byte_field b ∷ (digit_of (class_of c b) ∷ []) ∷ []

  module _ (l : List ℕ) where
    -- the fields of record k, and of all records
    abbrev pub fields_at : ℕ → List (List ℕ)
    fields_at k = fields_of (get_or l k 0)

    abbrev pub grid_of : List (List (List ℕ))
    grid_of = tabulate fields_at (length l)

    unfoldable pub print : List ℕ
    print = sheet_of grid_of
