-- No more pairs are ever finished than there are unordered pairs: only nodes with the lower place first are reached.
use Rattle.std.specs.Prelude.{List, ℕ, ◌≤◌, ◌<◌, get_or}
use Rattle.std.proofs.Math.Decide.{dec_lt}
use Rattle.std.proofs.Common.{arith}
use Rattle.code.specs.Laws.Cells.{total}
use Rattle.pair_places.specs.Flat.{Laid, place_count, cell_count, pair_count, pair_graph}
use Rattle.pair_places.specs.Roots.{Numbered, reach_pair}
use Rattle.pair_places.specs.Triangle.{ordered, ordered_one, pairs_most}
use Rattle.pair_heights.specs.Marks.{finished, finished_le, finished_none, Marks}

finished-ordered : {f xs : List ℕ} → Laid f → Numbered f → Marks (pair_graph f) xs → (v : ℕ) → finished (pair_graph f) (get_or xs v 0) ≤ ordered (place_count f) v
finished-ordered {f} {xs} l n m v = go (dec_lt (get_or xs v 0) 1)
  where
    go : Dec (get_or xs v 0 < 1) → finished (pair_graph f) (get_or xs v 0) ≤ ordered (place_count f) v
    go (yes h) = omega (arith, finished_none (pair_graph f) {x = get_or xs v 0} (omega arith))
    go (no h) = omega (arith, finished_le (pair_graph f) (get_or xs v 0), ordered_one (place_count f) v (reach_pair l n (m.reached v (omega arith)).walk).order)

pub pairs_few : {f xs : List ℕ} → Laid f → Numbered f → Marks (pair_graph f) xs → total (finished (pair_graph f)) xs ≤ pair_count f
unfolding cell_count pair_count
pairs_few {f} {xs} l n m = pairs_most (place_count f) (finished (pair_graph f)) xs m.size (finished-ordered l n m)
