-- The image of a code with copies, a flat list of bytes, and the code that such a list holds.
use Rattle.std.specs.Prelude.{◌≡◌, ℕ, ◌+◌, ◌*◌, ◌≤◌, ◌<◌, length, get_or}
use mathlib.Core.List.{List, [], ◌∷◌, ◌++◌, flat_map}
use Rattle.code.specs.declared.Word.{Word}
use Rattle.code.specs.declared.Row.{Row}
use Rattle.code.specs.declared.Code.{Code}
use Rattle.code.specs.declared.Enlarged.{Enlarged}
use Rattle.code.specs.Definitions.Lists.{tabulate}
use Rattle.code.specs.Definitions.Sheets.{limits}
use Rattle.code.specs.Definitions.Tables.{no_word, no_row}

-- 32 words of 16 symbols and a length, 32 rows of 32 entries, 32 start marks, and the count: the bytes of a word, where the rows begin, where the marks begin,
-- where the count stands, and all bytes of the code
abbrev pub word_width : ℕ
word_width = 17

abbrev pub rows_place : ℕ
rows_place = 544

abbrev pub marks_place : ℕ
marks_place = 1568

abbrev pub count_place : ℕ
count_place = 1600

abbrev pub code_length : ℕ
code_length = 1601

-- Then how many words are originals, for each word its origin, and for each the word behind: where the origins begin, where the words behind begin, and all bytes
abbrev pub origins_place : ℕ
origins_place = code_length + 1

abbrev pub behind_place : ℕ
behind_place = origins_place + limits.words

abbrev pub image_length : ℕ
image_length = behind_place + limits.words

abbrev pub word_bytes : Word → List ℕ
word_bytes w = w.symbols ++ (w.len ∷ [])

abbrev pub row_bytes : Row → List ℕ
row_bytes r = r.entries

abbrev pub words_bytes : List Word → List ℕ
words_bytes ws = flat_map word_bytes ws

abbrev pub rows_bytes : List Row → List ℕ
rows_bytes rs = flat_map row_bytes rs

unfoldable pub code_bytes : Code → List ℕ
code_bytes c = words_bytes c.words ++ rows_bytes c.rows ++ c.begins ++ (c.count ∷ [])

unfoldable pub image_of : Enlarged → List ℕ
image_of e = code_bytes e.code ++ (e.originals ∷ []) ++ e.origins ++ e.behind

-- What an image can hold: arrays of their lengths, and numbers that fit a byte.
pub record PackableCode (c : Code) : Type 0 where
  pub words : length c.words ≡ limits.words
  pub rows : length c.rows ≡ limits.words
  pub begins : length c.begins ≡ limits.words
  pub symbols : (k : ℕ) → k < limits.words → length (get_or c.words k no_word).symbols ≡ limits.symbols
  pub len : (k : ℕ) → k < limits.words → (get_or c.words k no_word).len ≤ 255
  pub entries : (x : ℕ) → x < limits.words → length (get_or c.rows x no_row).entries ≡ limits.words
  pub count : c.count ≤ 255

pub record Packable (e : Enlarged) : Type 0 where
  pub code : PackableCode e.code
  pub originals : e.originals ≤ 255
  pub origins : length e.origins ≡ limits.words
  pub behind : length e.behind ≡ limits.words

-- byte k after the place `at`
abbrev pub byte_from : List ℕ → ℕ → ℕ → ℕ
byte_from b at k = get_or b (at + k) 0

-- the word, and the row, that stand from `at` on
abbrev pub word_in : List ℕ → ℕ → Word
word_in b at = record { symbols = tabulate (byte_from b at) 16; len = byte_from b at 16 }

abbrev pub row_in : List ℕ → ℕ → Row
row_in b at = record { entries = tabulate (byte_from b at) 32 }

-- word k, and row k
abbrev pub word_number : List ℕ → ℕ → Word
word_number b k = word_in b (k * word_width)

abbrev pub row_number : List ℕ → ℕ → Row
row_number b k = row_in b (rows_place + k * 32)

unfoldable pub code_in : List ℕ → Code
code_in b = record { words = tabulate (word_number b) 32; rows = tabulate (row_number b) 32; begins = (row_in b marks_place).entries; count = get_or b count_place 0 }

unfoldable pub enlarged_in : List ℕ → Enlarged
enlarged_in b = record { code = code_in b; originals = get_or b code_length 0; origins = (row_in b origins_place).entries; behind = (row_in b behind_place).entries }
