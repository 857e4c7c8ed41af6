-- What the functions on one pair, or on the source, promise.
use Rattle.std.specs.Prelude.{◌≡◌, Option, MatchOption, true, false, List, ℕ, ◌+◌, ◌*◌, ◌≤◌, ◌<◌, length, get_or, set}
use Rattle.std.proofs.Common.{ControlFlow, Continue, Break}
use Rattle.pair_places.specs.declared.Pair.{Pair}
use Rattle.pair_places.specs.Flat.{symbol_at, place_count, cell_count, pair_count, cell, higher}
use Rattle.pair_places.specs.Opens.{straight_on, turning, open_graph}
use Rattle.pair_storage.specs.Entries.{entry_of, node_in}
use Rattle.pair_storage.specs.Fields.{above_in}
use Rattle.pair_slots.specs.declared.Arrival.{Arrival}
use Rattle.pair_slots.specs.declared.Arrival.TheVariants.{Passed, Fresh, Goal as Final}

-- The key of an entry.
abbrev pub key_of : List ℕ → ℕ → ℕ
key_of f e = above_in e * 16 + symbol_at f (higher f (node_in e))

-- Two places, of a pair that does not turn.
pub record Straight (f : List ℕ) (p : Pair) : Type 0 where
  pub low : p.low < place_count f
  pub high : p.high < place_count f
  pub straight : turning f (cell f p.low p.high) ≡ straight_on

-- Number v turns behind y, a word or the start.
pub record Turned (f : List ℕ) (v y : ℕ) : Type 0 where
  pub behind : y ≡ turning f v
  pub turns : y < straight_on

-- Behind what number v turns, if it does.
abbrev pub TurnedBy : List ℕ → ℕ → Option ℕ → Type 0
TurnedBy f v r = MatchOption r (turning f v ≡ straight_on) (Turned f v)

-- Number v is a node of symbol t that is no goal and not marked.
pub record IsFresh (f ms : List ℕ) (v t : ℕ) : Type 0 where
  pub node : v < cell_count f
  pub symbol : (open_graph f).symbol v ≡ t
  pub plain : (open_graph f).goal v ≡ false
  pub clear : get_or ms v 0 ≡ 0

-- Number v is a goal of symbol t.
pub record IsGoal (f : List ℕ) (v t : ℕ) : Type 0 where
  pub node : v < cell_count f
  pub symbol : (open_graph f).symbol v ≡ t
  pub goal : (open_graph f).goal v ≡ true

-- What stands at number v, for the symbol t.
pub data Seen (f ms : List ℕ) (v t : ℕ) : Arrival → Type 0 where
  passed : (v < cell_count f → (open_graph f).symbol v ≡ t → 1 ≤ get_or ms v 0) → Seen f ms v t Passed
  fresh : IsFresh f ms v t → Seen f ms v t Fresh
  goal : IsGoal f v t → Seen f ms v t Final

-- The lengths and numbers with which a pair is queued behind the group that begins at a: there is an entry for the source, one for each pair, and one to spare.
pub record Space (f ms q : List ℕ) (tail a : ℕ) : Type 0 where
  pub marks : length ms ≡ cell_count f
  pub wide : pair_count f + 2 ≤ length q
  pub few : tail ≤ pair_count f + 1
  pub start : a < tail

-- After number v was met by symbol t, from the group that begins at a: nothing is new, it is a goal, or it is marked and queued.
pub data Arrived (f ms q ms' q' : List ℕ) (a t tail v : ℕ) : ControlFlow ℕ ℕ → Type 0 where
  known : (v < cell_count f → (open_graph f).symbol v ≡ t → 1 ≤ get_or ms v 0) → ms' ≡ ms → q' ≡ q → Arrived f ms q ms' q' a t tail v (Continue tail)
  final : IsGoal f v t → ms' ≡ ms → q' ≡ q → Arrived f ms q ms' q' a t tail v (Break t)
  queued : IsFresh f ms v t → ms' ≡ set ms v 1 → q' ≡ set q tail (entry_of (a + 1) v) → Arrived f ms q ms' q' a t tail v (Continue (tail + 1))
