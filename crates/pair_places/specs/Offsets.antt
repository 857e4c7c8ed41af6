-- Where each part of the flat list starts, by the limits.
use Rattle.std.specs.Prelude.{ℕ, ◌+◌, ◌*◌}
use Rattle.code.specs.Definitions.Sheets.{limits}

-- The symbols of the places come first, then for each place its word,
abbrev pub owners_from : ℕ
owners_from = limits.total

-- and for each place whether it is the end of its word.
abbrev pub ends_from : ℕ
ends_from = owners_from + limits.total

-- For each word its first place.
abbrev pub firsts_from : ℕ
firsts_from = ends_from + limits.total

-- The follow matrix, row by row.
abbrev pub follow_from : ℕ
follow_from = firsts_from + limits.words

-- The number of words, and the number of places.
abbrev pub word_count_at : ℕ
word_count_at = follow_from + limits.words * limits.words

abbrev pub place_count_at : ℕ
place_count_at = word_count_at + 1

-- For each word whether it may begin.
abbrev pub begins_from : ℕ
begins_from = place_count_at + 1

-- For each word, and for the start behind them, whether it ends some permitted sequence.
abbrev pub endings_from : ℕ
endings_from = begins_from + limits.words

abbrev pub start_ending_at : ℕ
start_ending_at = endings_from + limits.words

-- Whether some word may not begin.
abbrev pub opens_flag_at : ℕ
opens_flag_at = start_ending_at + 1

abbrev pub list_length : ℕ
list_length = opens_flag_at + 1
