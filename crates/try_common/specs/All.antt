-- A list that holds one value throughout.
use Rattle.std.specs.Prelude.{◌≡◌, Bool, true, List, ℕ, ◌<◌, length, get_or}

-- All entries are v, by the equality eq.
abbrev pub All : {X : Type 0} → (X → X → Bool) → List X → X → Type 0
All {X} eq l v = (i : ℕ) (d : X) → i < length l → eq (get_or l i d) v ≡ true
