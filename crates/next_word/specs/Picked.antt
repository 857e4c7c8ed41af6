-- What the functions look for: a word of which something holds.
use Rattle.std.specs.Prelude.{Bool, List, ℕ, ◌<◌, Option, MatchOption}
use Rattle.code.specs.Definitions.Tables.{Table}
use Rattle.read_sets.specs.Sets.{Lays}
use Rattle.next_word.specs.Prefixes.{Opens}

-- A word below n of which P holds, if it holds of one.
abbrev pub Picked : (P : ℕ → Type 0) (n : ℕ) → Option ℕ → Type 0
Picked P n o = MatchOption o ((x : ℕ) → x < n → P x → ⊥) (λ x. (x < n) × P x)

-- A word that opens the symbols w, for every table whose sets the lists are.
pub record PickedBySets (having ends rows lengths : List ℕ) (n longest : ℕ) (cut : Bool) (w : List ℕ) (o : Option ℕ) : Type 0 where
  pub each : (t : Table) → Lays t having ends rows lengths n longest → Picked (Opens t cut w) n o
