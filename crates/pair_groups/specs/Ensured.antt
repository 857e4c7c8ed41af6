-- What the functions on one group promise: how a search stands after a part of it.
use Rattle.std.proofs.Common.{ControlFlow, Continue, Break}
use Rattle.std.specs.Prelude.{◌≡◌, List, ◌∷◌, reverse, ℕ, ◌+◌, ◌≤◌, ◌<◌, length}
use Rattle.graph.specs.Goals.{LeastGoal}
use Rattle.pair_places.specs.Flat.{Laid, cell_count, pair_count}
use Rattle.pair_places.specs.Opens.{toward, open_graph}
use Rattle.pair_places.specs.Roots.{Numbered}
use Rattle.pair_storage.specs.Entries.{node_at, entries_in}
use Rattle.pair_groups.specs.Labels.{Label, Labelled}
use Rattle.pair_groups.specs.Slots.{SlotStage}

-- The first n entries have a cell, or the source.
pub record Known (f q : List ℕ) (n : ℕ) : Type 0 where
  pub nodes : (i : ℕ) → i < n → node_at q i ≤ cell_count f

-- The search over the pairs of f stands at the slot c of member k, by symbol t, in the group a to b - 1.
abbrev pub Stands : (f ms q : List ℕ) (tail a b t k c : ℕ) → Type 0
Stands f ms q tail a b t k c = SlotStage (open_graph f) (toward f) ms q tail a b t k c

-- The lengths and numbers that a step reads, over the list q that has the links of the queue.
pub record Ready (f ms q : List ℕ) (tail a b t k : ℕ) : Type 0 where
  pub marks : length ms ≡ cell_count f
  pub wide : pair_count f + 2 ≤ length q
  pub few : tail ≤ pair_count f + 1
  pub from : a ≤ k
  pub member : k < b
  pub ends : b ≤ tail
  pub low : t < 16
  pub node : node_at (entries_in f q) k ≤ cell_count f

-- What dealing with a slot rests on.
pub record Expanding (f ms q : List ℕ) (tail a b t k c : ℕ) : Type 0 where
  pub laid : Laid f
  pub numbered : Numbered f
  pub stands : Stands f ms (entries_in f q) tail a b t k c
  pub ready : Ready f ms q tail a b t k

-- A goal comes next after the group that begins at a, by symbol t, and no other has a message before that.
pub record GoalNext (f q : List ℕ) (a t : ℕ) : Type 0 where
  pub small : a < pair_count f
  pub known : Known f q (a + 1)
  pub low : t < 16
  pub labelled : Labelled (open_graph f) q a
  pub least : (l : List ℕ) → Label (open_graph f) q a l → LeastGoal (open_graph f) (reverse (t ∷ l))

pub data Progressed (f ms q : List ℕ) (a b t k c : ℕ) : ControlFlow ℕ ℕ → Type 0 where
  met : {x : ℕ} → GoalNext f q a x → Progressed f ms q a b t k c (Break x)
  went : {e : ℕ} → Stands f ms q e a b t k c → Progressed f ms q a b t k c (Continue e)
