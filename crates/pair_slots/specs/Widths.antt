-- How many slots of a pair of places, or of the source, may lead on by a symbol.
use Rattle.std.specs.Prelude.{◌≡◌, Bool, true, false, List, ℕ, ◌+◌, ◌*◌, ◌<◌, eqb, if◌then◌else◌}
use Rattle.std.proofs.Math.Dec.{ltb}
use Rattle.std.proofs.Common.{lt-ltb}
use Rattle.code.specs.Definitions.Sheets.{limits}
use Rattle.pair_places.specs.Flat.{symbol_at, end_at, word_count, slots_of, lower, higher}
use Rattle.pair_places.specs.Opens.{straight_on, turning}

module _ (f : List ℕ) where
  -- A place inside its word, in a pair that is not two ends.
  abbrev pub inner_of : ℕ → ℕ → ℕ
  inner_of p q = if end_at f p then q else p

  -- Whether t leads the pair p, q on: only the symbol after its inner place can.
  abbrev pub leads_on : ℕ → ℕ → ℕ → Bool
  leads_on p q t = eqb (symbol_at f (inner_of p q + 1)) t

  -- How many slots of node v, or of the source, may lead on by t.
  unfoldable pub width : ℕ → ℕ → ℕ
  unfolding turning
  width v t = if ltb (turning f v) straight_on then word_count f * limits.words else if leads_on (lower f v) (higher f v) t then slots_of f (lower f v) (higher f v) else 0

  pub width_on : (v t : ℕ) → turning f v ≡ straight_on → leads_on (lower f v) (higher f v) t ≡ true → width v t ≡ slots_of f (lower f v) (higher f v)
  unfolding width
  width_on v t z e = rw z (rw e)

  pub width_off : (v t : ℕ) → turning f v ≡ straight_on → leads_on (lower f v) (higher f v) t ≡ false → width v t ≡ 0
  unfolding width
  width_off v t z e = rw z (rw e)

  pub width-turning : (v t : ℕ) → turning f v < straight_on → width v t ≡ word_count f * limits.words
  unfolding width
  width-turning v t l = rw (lt-ltb _ _ l)
