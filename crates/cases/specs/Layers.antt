-- The compatible pairs of a table in layers, as lists that compute: the members of a layer are exactly the pairs that its number of symbols reaches, each
-- with these symbols. The pairs of words from whose first places they start are given as a list.
use Rattle.std.specs.Prelude.{Bool, eqb}
use mathlib.Core.List.{List, [], ◌∷◌, ◌++◌, map, flat_map}
use Prim.Native.Nat.{ℕ, zero, suc}
use Rattle.code.specs.Definitions.Lists.{every}
use Rattle.code.specs.Definitions.Tables.{Table}
use Rattle.pair_theory.specs.Places.{Place, first_place, symbol}
use Rattle.pair_theory.specs.Bounded.{every_below}
use Rattle.cases.specs.Members.{keep}
use Rattle.cases.specs.Starts.{WordPair}
use Rattle.cases.specs.Steps.{steps}

-- A pair of places, and symbols that reach it.
pub record LabelledPair : Type 0 where
  pub label : List ℕ
  pub p : Place
  pub q : Place

abbrev pub labelled : List ℕ → Place → Place → LabelledPair
labelled m p q = record { label = m; p = p; q = q }

module _ (t : Table) where
  abbrev pub same_symbol : Place → Place → Bool
  same_symbol a b = eqb (symbol t a) (symbol t b)

  -- the two words have the same first symbol
  abbrev pub start_alike : WordPair → Bool
  start_alike w = same_symbol (first_place w.x) (first_place w.y)

  abbrev pub first_pair : WordPair → LabelledPair
  first_pair w = labelled (symbol t (first_place w.x) ∷ []) (first_place w.x) (first_place w.y)

  -- the pairs to which a common step leads from the pair e: those with the left place a,
  unfoldable pub next_pairs_to : LabelledPair → Place → List LabelledPair
  unfolding keep steps
  next_pairs_to e a = map (labelled (e.label ++ (symbol t a ∷ [])) a) (keep (same_symbol a) (steps t e.q))

  -- and all of them
  unfoldable pub next_pairs : LabelledPair → List LabelledPair
  unfolding flat_map next_pairs_to steps
  next_pairs e = flat_map (next_pairs_to e) (steps t e.p)

module _ (t : Table) (starts : List WordPair) where
  -- the pairs k common steps from a first pair, each as often as there are ways to it
  unfoldable pub layer : ℕ → List LabelledPair
  unfolding flat_map keep next_pairs
  layer zero = map (first_pair t) (keep (start_alike t) starts)
  layer (suc k) = flat_map (next_pairs t) (layer k)

  abbrev pub every_in_layer : (LabelledPair → Bool) → ℕ → Bool
  every_in_layer f k = every f (layer k)

  -- Every pair of the layers below n passes the test.
  unfoldable pub every_pair : (LabelledPair → Bool) → ℕ → Bool
  unfolding every_below every layer
  every_pair f n = every_below (every_in_layer f) n
