-- What a stored number and a cell come to: each is the number that its contract names.
use mathlib.Core.Path.{◌≡◌}
use mathlib.Core.List.{List}
use Prim.Native.Nat.{ℕ, ◌+◌, ◌*◌, ◌%◌, ◌-◌, ◌^◌, ◌<◌}
use native.Mathlib.Omega.{arith}
use lib.Bits.{bit_and, and_mask}
use Rattle.pair_places.specs.Cells.{cell_of}
use Rattle.pair_places.specs.Flat.{Laid, place_count, cell_count, cell}
use Rattle.pair_places.specs.Nodes.{cell_inside}
use Rattle.pair_storage.specs.Fields.{place_bits, place_room, mark_bits, mark_in}

module _ {f : List ℕ} (laid : Laid f) (low : ℕ) {high n : ℕ} (l : low < place_count f) (h : high < place_count f) (e : n ≡ place_count f) where
  pub is_cell : (low * n + high ≡ cell f low high) × (low * n + high < cell_count f)
  unfolding cell_of
  is_cell = rw e (omega arith, cell_inside f low high h l)

-- The square of the number of places is the number of cells.
pub is_count : (f : List ℕ) {n : ℕ} → n ≡ place_count f → n * n ≡ cell_count f
unfolding cell_count
is_count f e = rw e

-- A mask keeps the bits of one place, another those of a mark.
pub masked : (k : ℕ) → bit_and k (2 ^ place_bits - 1) ≡ k % place_room
masked k = and_mask k place_bits

pub mark_masked : (e : ℕ) → bit_and e (2 ^ mark_bits - 1) ≡ mark_in e
unfolding mark_in
mark_masked e = and_mask e mark_bits
