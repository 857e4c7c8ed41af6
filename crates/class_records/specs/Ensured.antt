-- What reading a record of a class sheet promises.
use Rattle.std.specs.Prelude.{◌≡◌, Bool, true, false, List, [], ◌∷◌, ℕ, ◌+◌, ◌≤◌, ◌<◌, length, drop}
use Rattle.std.specs.Prelude.{Option, MatchOption}
use Rattle.code.specs.Definitions.ClassSheets.{range_of, digits, malformed}
use Rattle.code.specs.Definitions.Lists.{any}
use Rattle.code.specs.Definitions.Texts.{other}
use Rattle.code.specs.Laws.Clean.{Clean, record_fields}
use Rattle.csv_records.specs.Fields.{leading}
use Rattle.csv_records.specs.Front.{rest_of}
use Rattle.class_records.specs.declared.ByteRange.{ByteRange}

-- The record that begins at `from` in s has fields of two digits, two and one, so it has seven bytes; the next one begins behind its CR LF.
pub record SevenBytes (s : List ℕ) (from : ℕ) : Type 0 where
  pub lowest : digits 2 (leading (drop from s)) ≡ true
  pub highest : digits 2 (leading (drop (from + 3) s)) ≡ true
  pub symbol : digits 1 (leading (drop (from + 6) s)) ≡ true
  pub first : record_fields (drop from s) ≡ (leading (drop from s) ∷ leading (drop (from + 3) s) ∷ leading (drop (from + 6) s) ∷ []) ∷ rest_of s (from + 9)
  pub clean : from + 9 ≤ length s → Clean (drop (from + 9) s)
  pub within : from + 7 ≤ length s

pub record Formed (s : List ℕ) (from : ℕ) (r : Bool) : Type 0 where
  pub yes : r ≡ true → SevenBytes s from
  pub no : r ≡ false → any malformed (record_fields (drop from s)) ≡ true

-- The record that begins at `from` in s is the range r.
pub record RangeFrom (s : List ℕ) (from : ℕ) (r : ByteRange) : Type 0 where
  pub fields : List (List ℕ)
  pub first : record_fields (drop from s) ≡ fields ∷ rest_of s r.next
  pub right : malformed fields ≡ false
  pub same : range_of fields ≡ record { lowest = r.lowest; highest = r.highest; symbol = r.symbol }
  pub clean : r.next ≤ length s → Clean (drop r.next s)
  pub letter : r.symbol < other
  pub long : from < r.next
  pub within : r.next ≤ length s + 2

-- The record that begins at `from` in s: it is malformed, or a range.
abbrev pub RecordFrom : List ℕ → ℕ → Option ByteRange → Type 0
RecordFrom s from r = MatchOption r (any malformed (record_fields (drop from s)) ≡ true) (RangeFrom s from)
