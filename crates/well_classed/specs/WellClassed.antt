-- The entries of classes as a class sheet can give them. `well_classed_lem` of Round shows that they are just those that accepted class sheets give.
use Rattle.std.specs.Prelude.{◌≡◌, false, List, ℕ, ◌≤◌, ◌<◌, length}
use Rattle.code.specs.Definitions.Lists.{any}
use Rattle.code.specs.Definitions.ClassSheets.{different_bytes}
use Rattle.code.specs.Definitions.Texts.{other, class_of, is_letter, signs}
use Rattle.code.specs.Laws.Below.{Some}

pub record WellClassed (c : List ℕ) : Type 0 where
  -- Every byte has an entry.
  pub whole : length c ≡ different_bytes
  -- An entry is a symbol, or `other`.
  pub small : (b : ℕ) → b < different_bytes → class_of c b ≤ other
  -- No sign is a letter.
  pub apart : any (is_letter c) signs ≡ false
  -- Some byte is a letter.
  pub letter : Some (is_letter c) different_bytes
