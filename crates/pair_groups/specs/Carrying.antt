-- The two places that a link of the queue carries: those of its entry's number, and those whose mark is set.
use Rattle.std.specs.Prelude.{◌≡◌, List, ℕ, ◌≤◌, ◌<◌, get_or}
use Rattle.std.proofs.Common.{sym, arith}
use Rattle.pair_places.specs.declared.Pair.{Pair}
use Rattle.pair_places.specs.Flat.{Laid, place_count, cell_count, cell}
use Rattle.pair_places.specs.Nodes.{low_inside}
use Rattle.pair_places.specs.Opens.{straight_on, turning, open_graph}
use Rattle.pair_storage.specs.Entries.{PairOf, node_at, entries_in, carried}
use Rattle.pair_storage.specs.Fields.{Carries}
use Rattle.pair_storage.specs.Stores.{mark_of}
use Rattle.pair_slots.specs.Ensured.{Straight, Turned}
use Rattle.pair_slots.specs.Leaves.{goes_straight, goes_behind}
use Rattle.pair_groups.specs.Ensured.{Known, Expanding}
use Rattle.pair_groups.specs.Queue.{Queue, entry_node}

-- The pair p has two places, and its mark is set.
pub record CarriesMarked (f ms : List ℕ) (p : Pair) : Type 0 where
  pub low : p.low < place_count f
  pub high : p.high < place_count f
  pub set : 1 ≤ mark_of f ms p

-- 02, request 6: "the two places carried are at every step those whose mark is read or set", in the queue.
pub queue_carries : {f ms : List ℕ} (q : List ℕ) {tail : ℕ} → Laid f → Queue (open_graph f) ms (entries_in f q) tail → (i : ℕ) → 1 ≤ i → i < tail
    → {p : Pair} → Carries (get_or q i 0) p → CarriesMarked f ms p
queue_carries {f} q laid s i h l {p} c =
    let n : node_at (entries_in f q) i < cell_count f = entry_node s i h l in
    let r = carried f q laid i (omega arith) c in
    record { low = low_inside f p.low p.high (rw r.node n); high = r.inside; set = rw r.node (s.marked i h l) }

-- The pair of an entry that is known.
pub known_node : {f q : List ℕ} {n i : ℕ} → Known f q n → i < n → node_at q i ≤ cell_count f
known_node {i = i} known l = known.nodes i l

module _ {f : List ℕ} (q : List ℕ) {n i : ℕ} {p : Pair} (laid : Laid f) (known : Known f (entries_in f q) n) (l : i < n) (c : Carries (get_or q i 0) p) where
  pub known_pair : PairOf f (node_at (entries_in f q) i) p
  known_pair = carried f q laid i (known.nodes i l) c

  pub known_high : p.high < place_count f
  known_high = known_pair.inside

-- The pair of a member, by whether it turns.
module _ {f ms q : List ℕ} {tail a b t k c : ℕ} {p : Pair} (x : Expanding f ms q tail a b t k c) (d : Carries (get_or q k 0) p) where
  member_pair : PairOf f (node_at (entries_in f q) k) p
  member_pair = carried f q x.laid k x.ready.node d

  pub member_high : p.high < place_count f
  member_high = member_pair.inside

  pub member_number : node_at (entries_in f q) k ≡ cell f p.low p.high
  member_number = sym member_pair.node

  pub member_turns : {y : ℕ} → Turned f (cell f p.low p.high) y → Turned f (node_at (entries_in f q) k) y
  member_turns t = goes_behind x.laid p member_pair t

  pub member_straight : turning f (cell f p.low p.high) ≡ straight_on → Straight f p
  member_straight e = goes_straight x.laid p e member_high
