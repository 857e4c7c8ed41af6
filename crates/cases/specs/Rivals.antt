-- Whether two words are rivals, as a test that computes.
use Rattle.std.specs.Prelude.{Bool, ◌&&◌, ◌||◌, ℕ}
use Rattle.code.specs.Definitions.Tables.{Table, size}
use Rattle.code.specs.Laws.Below.{some_below}
use Rattle.code.specs.Laws.Endings.{is_ending}

module _ (t : Table) where
  -- x and y may both begin
  abbrev pub both_begin : ℕ → ℕ → Bool
  both_begin x y = t.begins x && t.begins y

  -- z ends some permitted sequence, and x and y may both follow it
  abbrev pub both_follow : ℕ → ℕ → ℕ → Bool
  both_follow x y z = is_ending t z && (t.follow x z && t.follow y z)

  unfoldable pub are_rivals : ℕ → ℕ → Bool
  unfolding some_below is_ending
  are_rivals x y = both_begin x y || some_below (both_follow x y) (size t)
