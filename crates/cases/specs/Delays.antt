-- The delay from the layers of pairs of rivals. Without rivals it is 0; the first empty layer shows the longest path; and a layer past as many as there are
-- unordered pairs, if it is not empty, shows that the code is without bound.
use Rattle.std.specs.Prelude.{Bool, ◌&&◌}
use Rattle.std.proofs.Math.Bool.{true, not}
use Prim.Native.Nat.{ℕ, zero, suc}
use Rattle.code.specs.Definitions.Lists.{sum}
use Rattle.code.specs.Definitions.Tables.{Table}
use Rattle.pair_theory.specs.Finite.{pair_count}
use Rattle.cases.specs.Members.{empty}
use Rattle.cases.specs.Starts.{partings}
use Rattle.cases.specs.Layers.{LabelledPair, layer, every_pair}
use Rattle.cases.specs.Ends.{both_end}

module _ (t : Table) where
  -- No two different words are rivals.
  unfoldable pub no_partings : Bool
  unfolding empty partings
  no_partings = empty (partings t)

  -- Layer k of the pairs from rivals is empty.
  unfoldable pub is_empty : ℕ → Bool
  unfolding empty partings layer
  is_empty k = empty (layer t (partings t) k)

  abbrev pub not_both_end : LabelledPair → Bool
  not_both_end e = not (both_end t e)

  -- No pair of the layers below n is one of two ends.
  unfoldable pub no_two_ends : ℕ → Bool
  unfolding every_pair partings
  no_two_ends n = every_pair t (partings t) not_both_end n

  -- The layer before layer r, where there is one, is not empty.
  unfoldable pub some_before : ℕ → Bool
  unfolding is_empty
  some_before zero = true
  some_before (suc k) = not (is_empty k)

  -- Layer r is the first empty one, and no pair is one of two ends.
  unfoldable pub longest_is : ℕ → Bool
  unfolding no_two_ends is_empty some_before
  longest_is r = no_two_ends r && (is_empty r && some_before r)

  -- 01: "if the longest path has r steps from the start, the step to a first pair included, the delay is r + 1". 02, request 1: "Where no two words,
  -- whatever their symbols, may both begin or both follow so, the delay is 0."
  unfoldable pub delay_is : ℕ → Bool
  unfolding no_partings longest_is
  delay_is zero = no_partings
  delay_is (suc r) = not no_partings && longest_is r

  -- No pair is one of two ends in as many layers as there are unordered pairs, and the next layer is not empty.
  unfoldable pub is_without_bound : Bool
  unfolding no_two_ends is_empty pair_count sum
  is_without_bound = no_two_ends (pair_count t) && not (is_empty (pair_count t))
