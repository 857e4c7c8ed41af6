-- The digits of a field as a pass reads them: digit k is the byte k after the field's start.
use Rattle.std.specs.Prelude.{◌≡◌, true, List, ℕ, ◌+◌, ◌<◌, length, drop, get_or}
use Rattle.std.proofs.Common.{sym, ap, ◌∙◌, get_or-drop}
use Rattle.code.specs.Definitions.Sheets.{is_digit, value_of}
use Rattle.code.specs.Laws.Lists.{get_or_within}
use Rattle.csv_records.specs.Fields.{leading, leading_at}

-- the symbol of digit k of a field, 0 past its end
abbrev pub field_symbol : List ℕ → ℕ → ℕ
field_symbol f k = value_of (get_or f k 48)

pub leading_digit : (s : List ℕ) (at k : ℕ) → k < length (leading (drop at s)) → is_digit (get_or s (at + k) 0) ≡ true
leading_digit s at k h = rw (← get_or-drop at s k 0) (leading_at (drop at s) k 0 h).1

pub leading_symbol : (s : List ℕ) (at k : ℕ) → k < length (leading (drop at s)) → value_of (get_or s (at + k) 0) ≡ field_symbol (leading (drop at s)) k
leading_symbol s at k h = ap value_of (sym (get_or-drop at s k 0) ∙ (leading_at (drop at s) k 0 h).0 ∙ get_or_within (leading (drop at s)) k 0 48 h)
