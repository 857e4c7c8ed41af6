-- What comes of meeting a pair, by what stands there: nothing new, a goal, or a node that is then queued.
use Rattle.std.proofs.Common.{Continue, Break}
use mathlib.Core.Path.{◌≡◌, refl}
use mathlib.Core.List.{List}
use Prim.Native.Nat.{ℕ, ◌+◌, ◌≤◌, ◌<◌}
use native.Mathlib.Omega.{arith}
use lib.ListN.{get_or}
use Rattle.pair_places.specs.declared.Pair.{Pair}
use Rattle.pair_places.specs.Flat.{Laid, place_count, cell_count, cell}
use Rattle.pair_places.specs.Nodes.{low_inside, pairs_limited}
use Rattle.pair_places.specs.Opens.{open_graph}
use Rattle.pair_storage.specs.Entries.{entries_in}
use Rattle.pair_storage.specs.Fields.{above_room}
use Rattle.pair_storage.specs.Marks.{marks}
use Rattle.pair_storage.specs.Stores.{Stored}
use Rattle.pair_slots.specs.declared.Arrival.{Arrival}
use Rattle.pair_slots.specs.declared.Arrival.TheVariants.{Passed, Fresh, Goal as Final}
use Rattle.pair_slots.specs.Ensured.{IsFresh, IsGoal, Seen, passed, fresh, goal, Space, Arrived, known, final, queued}

-- What each arrival says.
module _ {f ms : List ℕ} {v t : ℕ} where
  was_passed : {x : Arrival} → Seen f ms v t x → x ≡ Passed → v < cell_count f → (open_graph f).symbol v ≡ t → 1 ≤ get_or ms v 0
  was_passed (passed h) e = h
  was_passed (fresh h) e = let y : ◌≡◌ {A = ℕ} 0 1 = cc in absurd (omega arith)
  was_passed (goal h) e = let y : ◌≡◌ {A = ℕ} 0 1 = cc in absurd (omega arith)

  was_fresh : {x : Arrival} → Seen f ms v t x → x ≡ Fresh → IsFresh f ms v t
  was_fresh (passed h) e = let y : ◌≡◌ {A = ℕ} 0 1 = cc in absurd (omega arith)
  was_fresh (fresh h) e = h
  was_fresh (goal h) e = let y : ◌≡◌ {A = ℕ} 0 1 = cc in absurd (omega arith)

  was_final : {x : Arrival} → Seen f ms v t x → x ≡ Final → IsGoal f v t
  was_final (passed h) e = let y : ◌≡◌ {A = ℕ} 0 1 = cc in absurd (omega arith)
  was_final (fresh h) e = let y : ◌≡◌ {A = ℕ} 0 1 = cc in absurd (omega arith)
  was_final (goal h) e = h

  -- What `meet` returns.
  module _ {q : List ℕ} {a tail : ℕ} {x : Arrival} (y : Seen f ms v t x) where
    pub meets_known : x ≡ Passed → Arrived f ms q ms q a t tail v (Continue tail)
    meets_known e = known (was_passed y e) refl refl

    pub meets_goal : x ≡ Final → Arrived f ms q ms q a t tail v (Break t)
    meets_goal e = final (was_final y e) refl refl

-- A pair that is stored has two places,
pub fresh_low : {f ms : List ℕ} {t : ℕ} {x : Arrival} (p : Pair) → Seen f ms (cell f p.low p.high) t x → x ≡ Fresh → p.low < place_count f
fresh_low {f} p y e = low_inside f p.low p.high (was_fresh y e).node

-- and the mark that is set and the entry that is stored are those of one pair.
pub meets_fresh : {f q q' : List ℕ} {a t tail : ℕ} {x : Arrival} (p : Pair) → Seen f (marks f q) (cell f p.low p.high) t x → x ≡ Fresh
    → Stored f q tail (a + 1) p 1 q' → Arrived f (marks f q) (entries_in f q) (marks f q') (entries_in f q') a t tail (cell f p.low p.high) (Continue (tail + 1))
meets_fresh p y e s = queued (was_fresh y e) s.marks s.entries

-- The number above an entry fits its field.
pub above_fits : {f ms q : List ℕ} {tail a : ℕ} → Laid f → Space f ms q tail a → a + 1 < above_room
above_fits laid s = let n = pairs_limited laid in let h = s.few in let l = s.start in omega arith
