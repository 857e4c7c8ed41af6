-- The sheet that is written for a table: its words, start marks and entries in digits.
use Rattle.std.specs.Prelude.{List, [], ◌∷◌, map, ℕ, get_or}
use Rattle.code.specs.declared.Code.{Code}
use Rattle.code.specs.Definitions.Lists.{tabulate}
use Rattle.code.specs.Definitions.Tables.{no_word, symbols_of, entry_of}
use Rattle.csv_records.specs.Digits.{digit_of}
use Rattle.csv_records.specs.Sheets.{sheet_of}

module _ (c : Code) where
  abbrev pub word_field : ℕ → List ℕ
  word_field k = map digit_of (symbols_of (get_or c.words k no_word))

  abbrev pub mark_field : ℕ → List ℕ
  mark_field k = digit_of (get_or c.begins k 0) ∷ []

  abbrev pub entry_field : ℕ → ℕ → List ℕ
  entry_field x y = digit_of (entry_of c x y) ∷ []

  -- the fields of record x, and of all records
  abbrev pub fields_of : ℕ → List (List ℕ)
  fields_of x = word_field x ∷ mark_field x ∷ tabulate (entry_field x) c.count

  abbrev pub grid_of : List (List (List ℕ))
  grid_of = tabulate fields_of c.count

  unfoldable pub print : List ℕ
  print = sheet_of grid_of
