-- How long the list of a search is. It has a mark for each cell, and entries for the source, for each pair and one to spare; these are more than the cells only where
-- there are one or two places.
use Rattle.std.specs.Prelude.{◌≡◌, List, ℕ, zero, suc, ◌+◌, ◌*◌, ◌/◌, ◌≤◌, max}
use Rattle.std.proofs.Math.Decide.{dec_le}
use Rattle.std.proofs.Common.{mul-le-mul, arith}
use Rattle.code.specs.Definitions.Sheets.{limits}
use Rattle.pair_places.specs.Flat.{Laid, place_count, cell_count, pair_count}
use Rattle.pair_places.specs.Nodes.{cells_most}

-- 5 for the source, the three pairs of two places, and one to spare
unfoldable pub room_of : List ℕ → ℕ
room_of f = max (cell_count f) 5

pub room_cells : (f : List ℕ) → cell_count f ≤ room_of f
unfolding room_of
room_cells f = omega arith

pub room_most : {f : List ℕ} → Laid f → room_of f ≤ limits.total * limits.total
unfolding room_of
room_most laid = let h = cells_most laid in omega arith

pairs_fit : (s : ℕ) → s * (s + 1) / 2 + 2 ≤ max (s * s) 5
pairs_fit s = go s (dec_le 3 s)
  where
    go : (n : ℕ) → Dec (3 ≤ n) → n * (n + 1) / 2 + 2 ≤ max (n * n) 5
    go n (yes h) = let m : 3 * n ≤ n * n = mul-le-mul h (omega arith) in let e : n * (n + 1) ≡ n * n + n = omega arith in omega arith
    go zero (no h) = omega arith
    go (suc zero) (no h) = omega arith
    go (suc (suc zero)) (no h) = omega arith
    go (suc (suc (suc n))) (no h) = absurd (omega arith)

pub room_pairs : (f : List ℕ) → pair_count f + 2 ≤ room_of f
unfolding room_of cell_count pair_count
room_pairs f = pairs_fit (place_count f)
