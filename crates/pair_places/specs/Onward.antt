-- Where a slot leads from a place, case by case.
use Rattle.std.specs.Prelude.{◌≡◌, true, false, List, ℕ, ◌+◌, ◌≤◌, ◌<◌}
use Rattle.std.proofs.Common.{lt-ltb, le-ltb}
use Rattle.pair_places.specs.Flat.{owner_at, end_at, first_at, may_follow, word_count, place_count, cell_count, onward, pair_node, slots_of, arc_from}

module _ (f : List ℕ) (p j : ℕ) where
  pub inside : end_at f p ≡ false → onward f p j ≡ p + 1
  inside e = simp e

  pub across : end_at f p ≡ true → j < word_count f → may_follow f j (owner_at f p) ≡ true → onward f p j ≡ first_at f j
  across e l m = simp (e, lt-ltb _ _ l, m)

  pub banned : end_at f p ≡ true → may_follow f j (owner_at f p) ≡ false → j < word_count f → onward f p j ≡ place_count f
  banned e m l = simp (e, lt-ltb _ _ l, m)

  pub no_word_lem : end_at f p ≡ true → word_count f ≤ j → onward f p j ≡ place_count f
  no_word_lem e l = simp (e, le-ltb _ _ l)

-- Where a slot leads from a pair.
module _ (f : List ℕ) (p q j : ℕ) where
  pub arc_within : j < slots_of f p q → arc_from f p q j ≡ pair_node f (onward f p j) (onward f q j)
  unfolding arc_from
  arc_within l = simp (lt-ltb _ _ l)

  pub arc_past : slots_of f p q ≤ j → arc_from f p q j ≡ cell_count f
  unfolding arc_from
  arc_past l = simp (le-ltb _ _ l)
