-- The pairs of words from whose first places layers start, as lists that compute: different words that are rivals, and words that may both begin.
use Rattle.std.specs.Prelude.{Bool, not, ◌&&◌, ℕ, ◌<◌, eqb}
use mathlib.Core.List.{List, map, flat_map, Memᴰ}
use Rattle.code.specs.Definitions.Tables.{Table, size}
use Rattle.cases.specs.Members.{keep, numbers}
use Rattle.cases.specs.Rivals.{both_begin, are_rivals}

pub record WordPair : Type 0 where
  pub x : ℕ
  pub y : ℕ

abbrev pub word_pair : ℕ → ℕ → WordPair
word_pair x y = record { x = x; y = y }

module _ (t : Table) where
  -- the pairs of words that pass the test f: those with the left word x,
  unfoldable pub pairs_with : (ℕ → ℕ → Bool) → ℕ → List WordPair
  unfolding keep numbers
  pairs_with f x = map (word_pair x) (keep (f x) (numbers (size t)))

  -- and all of them
  unfoldable pub word_pairs : (ℕ → ℕ → Bool) → List WordPair
  unfolding flat_map numbers pairs_with
  word_pairs f = flat_map (pairs_with f) (numbers (size t))

  abbrev pub different_rivals : ℕ → ℕ → Bool
  different_rivals x y = not (eqb x y) && are_rivals t x y

  -- the pairs of different words that are rivals
  unfoldable pub partings : List WordPair
  unfolding word_pairs are_rivals
  partings = word_pairs different_rivals

  -- the pairs of words that may both begin, a word with itself too
  unfoldable pub beginnings : List WordPair
  unfolding word_pairs
  beginnings = word_pairs (both_begin t)

  -- a is a pair of words of the table, and one of S.
  pub record Starting (S : ℕ → ℕ → Type 0) (a : WordPair) : Type 0 where
    pub left_known : a.x < size t
    pub right_known : a.y < size t
    pub starts : S a.x a.y

  -- The list has the pairs of words of S and no other.
  pub record Lists (S : ℕ → ℕ → Type 0) (l : List WordPair) : Type 0 where
    pub sound : (a : WordPair) → Memᴰ a l → Starting S a
    pub complete : (a : WordPair) → Starting S a → Memᴰ a l
