-- The answer to a sheet or a list for C and Rust: the number that is returned, and what the lent buffer then holds.
use Rattle.std.specs.Prelude.{◌≡◌, List, ℕ, min, ltb, length, take, if◌then◌else◌, Err, Ok, Result}
use Rattle.c_answers.specs.Answers.{short_number}
use Rattle.code.specs.declared.Classes.{Classes}
use Rattle.code.specs.declared.Refusal.{Refusal}
use Rattle.code.specs.Definitions.Answers.{refusal_number}
use Rattle.code.specs.Definitions.ClassSheets.{different_bytes}
use Rattle.code.specs.Definitions.Operations.{written}

-- Where the buffer has not the n bytes that are needed, 13 holds beside the own refusal of a sheet or a list, which is below it or, from 15 on, above.
abbrev pub sheet_number : Result Unit Refusal → ℕ → List ℕ → ℕ
sheet_number (Ok tt) n b = if ltb (length b) n then short_number else 0
sheet_number (Err r) n b = if ltb (length b) n then min (refusal_number r) short_number else refusal_number r

-- What an accepted sheet or list gives is written; a refusal changes nothing.
abbrev pub after_sheet : Result Unit Refusal → ℕ → (bytes b : List ℕ) → List ℕ
after_sheet (Ok tt) n bytes b = if ltb (length b) n then b else written bytes b
after_sheet (Err r) n bytes b = b

-- The answer a to a sheet or a list, which gives these n bytes, with the buffer b for them.
pub record Answered (a : Result Unit Refusal) (n : ℕ) (bytes b b' : List ℕ) (r : ℕ) : Type 0 where
  pub number : r ≡ sheet_number a n b
  pub buffer : b' ≡ after_sheet a n bytes b

-- The classes that stand at the start of some bytes.
abbrev pub classes_in : List ℕ → Classes
classes_in b = record { entries = take different_bytes b }
