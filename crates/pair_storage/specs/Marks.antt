-- The marks of a list, one for each cell, whatever the link beside it. A mark that is stored is seen in its cell, and a link that is stored is not seen.
use Rattle.std.specs.Prelude.{◌≡◌, ℕ, zero, suc, ◌≤◌, ◌<◌, length, get_or, set, take, replicate}
use Rattle.std.proofs.Math.Path.{refl, ap}
use Rattle.std.proofs.Common.{◌∙◌, arith, get_or-take}
use mathlib.Core.List.{List, [], ◌∷◌, map}
use Rattle.std.proofs.Math.Decide.{dec_lt}
use Rattle.std.proofs.Math.ListN.{length-map, length-take, get_or-map}
use Rattle.std.proofs.Math.Seq.{take-set-lt, map-set_same}
use Rattle.std.proofs.lemmas.List.{take-set-le}
use Rattle.pair_places.specs.Flat.{cell_count}
use Rattle.pair_storage.specs.Fields.{mark_in}

-- The marks of the cells of the pairs of f.
unfoldable pub marks : List ℕ → List ℕ → List ℕ
marks f w = map mark_in (take (cell_count f) w)

map-set : (g : ℕ → ℕ) (l : List ℕ) (i k : ℕ) → map g (set l i k) ≡ set (map g l) i (g k)
map-set g [] i k = refl
map-set g (x ∷ l) zero k = refl
map-set g (x ∷ l) (suc i) k = ap (λ (m : List ℕ). g x ∷ m) (map-set g l i k)

map_zeros : (g : ℕ → ℕ) → g 0 ≡ 0 → (n : ℕ) → map g (replicate n 0) ≡ replicate n 0
map_zeros g z zero = refl
map_zeros g z (suc n) = rw (z, map_zeros g z n)

module _ (f w : List ℕ) where
  -- There is a mark for each cell only in a list that is long enough.
  pub marks_within : length (marks f w) ≡ cell_count f → cell_count f ≤ length w
  unfolding marks
  marks_within h = omega (arith, h, length-map (take (cell_count f) w) mark_in, length-take (cell_count f) w)

  pub mark_at_lem : (v : ℕ) → v < cell_count f → get_or (marks f w) v 0 ≡ mark_in (get_or w v 0)
  unfolding marks mark_in
  mark_at_lem v h = get_or-map mark_in (take (cell_count f) w) v 0 ∙ ap mark_in (get_or-take (cell_count f) w v 0 h)

  -- A mark that is stored is seen in its cell.
  pub marks_set : (v k : ℕ) → v < cell_count f → marks f (set w v k) ≡ set (marks f w) v (mark_in k)
  unfolding marks
  marks_set v k h = ap (map mark_in) (take-set-lt (cell_count f) w v k h) ∙ map-set mark_in (take (cell_count f) w) v k

  -- A link that is stored beside a mark is not seen.
  pub marks_same : (i k : ℕ) → mark_in k ≡ mark_in (get_or w i 0) → marks f (set w i k) ≡ marks f w
  unfolding marks
  marks_same i k e = go (dec_lt i (cell_count f))
    where
      go : Dec (i < cell_count f) → map mark_in (take (cell_count f) (set w i k)) ≡ map mark_in (take (cell_count f) w)
      go (yes h) =
          ap (map mark_in) (take-set-lt (cell_count f) w i k h)
          ∙ map-set_same mark_in (take (cell_count f) w) i k 0 (rw (get_or-take (cell_count f) w i 0 h) e)
      go (no h) = ap (map mark_in) (take-set-le (cell_count f) w i k (omega arith))

  -- Where the first numbers of a list are 0, one for each cell, no pair is marked.
  pub marks_clear : take (cell_count f) w ≡ replicate (cell_count f) 0 → marks f w ≡ replicate (cell_count f) 0
  unfolding marks mark_in
  marks_clear e = ap (map mark_in) e ∙ map_zeros mark_in refl (cell_count f)
