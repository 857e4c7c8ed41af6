-- The answer once the table, the message's length and the working buffer are in order.
use Rattle.std.specs.Prelude.{List, ℕ, Err, Ok, Result}
use Rattle.code.specs.declared.Enlarged.{Enlarged}
use Rattle.code.specs.declared.Refusal.{Refusal}
use Rattle.code.specs.Definitions.Enlarged.{original_table}
use Rattle.code.specs.Definitions.NextWords.{Foretells, foretelling_conditions}
use Rattle.code.specs.Definitions.Operations.{FirstHolds, NoneHolds}
use Rattle.code.specs.Definitions.Sheets.{limits}

-- The answer by the delay: refused with 21, 12 or 14, or a word is named.
pub data Told (e : Enlarged) (m : List ℕ) : Result ℕ Refusal → Type 0 where
  not_told : {r : Refusal} → FirstHolds (foretelling_conditions limits e m) r → Told e m (Err r)
  told : {x : ℕ} → NoneHolds (foretelling_conditions limits e m) → Foretells (original_table e) m x → Told e m (Ok x)
