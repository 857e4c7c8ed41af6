-- The shortest ambiguous message from the layers of pairs of words that may both begin: no layer up to its own has the ends of two different words with
-- symbols that come before it.
use Rattle.std.specs.Prelude.{not, ◌||◌, List, ℕ, length}
use Rattle.std.proofs.Math.Bool.{Bool}
use Rattle.code.specs.Definitions.Tables.{Table}
use Rattle.cases.specs.Comparing.{not_before}
use Rattle.cases.specs.Starts.{beginnings}
use Rattle.cases.specs.Layers.{LabelledPair, every_pair}
use Rattle.cases.specs.Ends.{apart_ends}

module _ (t : Table) where
  -- if the pair is one of the ends of different words, its symbols do not come before m
  abbrev pub ends_not_before : List ℕ → LabelledPair → Bool
  ends_not_before m e = not (apart_ends t e) || not_before m e.label

  -- No symbols that reach the ends of different words come before m, in order of length and then of symbols.
  unfoldable pub least_is : List ℕ → Bool
  unfolding every_pair beginnings not_before
  least_is m = every_pair t (beginnings t) (ends_not_before m) (length m)
