-- The state of the search: a queue of nodes in groups, and the marks of the nodes in it. A group is a run of entries with one key. Keys are numbers, and they
-- ascend along the queue as the messages of the groups do.
use Rattle.std.specs.Prelude.{◌≡◌, false, List, ℕ, ◌+◌, ◌*◌, ◌≤◌, ◌<◌, min, length, get_or}
use Rattle.std.proofs.Math.Decide.{ℕ_discrete}
use Rattle.std.proofs.Common.{arith}
use Rattle.graph.specs.Graph.{Graph}
use Rattle.code.specs.Laws.Cells.{total}
use Rattle.pair_storage.specs.Entries.{node_at, above_at}
use Rattle.pair_groups.specs.Links.{Link, link_node}

-- 1 for a mark, 0 for a clear cell
unfoldable pub mark : ℕ → ℕ
mark x = min x 1

-- The graph's symbols fit a key.
pub record Bounded (g : Graph) : Type 0 where
  pub symbols : (v : ℕ) → g.symbol v < 16

-- The group of entry i: where the group of its predecessor begins, and its own symbol.
abbrev pub key : Graph → List ℕ → ℕ → ℕ
key g q i = above_at q i * 16 + g.symbol (node_at q i)

-- Node v is queued.
pub record Queued (q : List ℕ) (tail v : ℕ) : Type 0 where
  pub index : ℕ
  pub below : index < tail
  pub node : node_at q index ≡ v

-- Node w was met from entry i, or from an earlier group: it is queued, and comes from a group that begins at i or before.
pub record Met (q : List ℕ) (tail i w : ℕ) : Type 0 where
  pub index : ℕ
  pub below : index < tail
  pub node : node_at q index ≡ w
  pub soon : above_at q index ≤ i + 1

-- Why entry i holds node v and `from` x: v comes next after a member of the group that begins at `first`.
pub record Origin (g : Graph) (q : List ℕ) (tail i v x : ℕ) : Type 0 where
  pub first : ℕ
  pub early : first < i
  pub from : x ≡ first + 1
  pub begins : (j : ℕ) → j < first → key g q j < key g q first
  pub member : ℕ
  pub below : member < tail
  pub same : key g q member ≡ key g q first
  pub link : Link g (node_at q member) v

-- Keys ascend along the first `tail` entries.
pub record Ascending (g : Graph) (q : List ℕ) (tail : ℕ) : Type 0 where
  pub keys : (i j : ℕ) → i ≤ j → j < tail → key g q i ≤ key g q j

-- The first `tail` entries of q are in use, entry 0 for the source; ms marks the nodes that are queued.
pub record Queue (g : Graph) (ms q : List ℕ) (tail : ℕ) : Type 0 where
  pub bounded : Bounded g
  pub size : length ms ≡ g.nodes
  pub some : 1 ≤ tail
  -- a marked node is queued
  pub found : (v : ℕ) → 1 ≤ get_or ms v 0 → Queued q tail v
  -- every entry but the source is marked
  pub marked : (i : ℕ) → 1 ≤ i → i < tail → 1 ≤ get_or ms (node_at q i) 0
  -- no more entries than marks, and the source
  pub room : tail ≤ total mark ms + 1
  pub source_node : node_at q 0 ≡ g.nodes
  pub source_from : above_at q 0 ≡ 0
  -- no goal is queued
  pub plain : (i : ℕ) → 1 ≤ i → i < tail → g.goal (node_at q i) ≡ false
  pub ascending : Ascending g q tail
  pub origin : (i : ℕ) → 1 ≤ i → i < tail → Origin g q tail i (node_at q i) (above_at q i)

-- Entries a to b - 1 are one group.
pub record IsGroup (g : Graph) (q : List ℕ) (tail a b : ℕ) : Type 0 where
  pub some : a < b
  pub ends : b ≤ tail
  pub same : (i : ℕ) → a ≤ i → i < b → key g q i ≡ key g q a
  pub after : (i : ℕ) → b ≤ i → i < tail → key g q a < key g q i

-- The search stands in the group a to b - 1, at symbol t and member k.
pub record Stage (g : Graph) (ms q : List ℕ) (tail a b t k : ℕ) : Type 0 where
  pub queue : Queue g ms q tail
  pub group : IsGroup g q tail a b
  pub from : a ≤ k
  pub to : k ≤ b
  pub high : t ≤ 16
  -- the group begins at a
  pub begins : (i : ℕ) → i < a → key g q i < key g q a
  -- nothing is queued yet that comes after this group by a later symbol
  pub near : (i : ℕ) → i < tail → key g q i ≤ (a + 1) * 16 + t
  -- what comes next was met: after the earlier groups, by the symbols below t, and by t after the members before k
  pub done : (i w : ℕ) → i < a → Link g (node_at q i) w → Met q tail i w
  pub part : (i w : ℕ) → i < b → g.symbol w < t → Link g (node_at q i) w → Met q tail i w
  pub here : (i w : ℕ) → i < k → g.symbol w ≤ t → Link g (node_at q i) w → Met q tail i w

-- All groups before entry a are done, and a group begins there if the queue goes on.
pub record Between (g : Graph) (ms q : List ℕ) (tail a : ℕ) : Type 0 where
  pub queue : Queue g ms q tail
  pub order : a ≤ tail
  pub begins : a < tail → (i : ℕ) → i < a → key g q i < key g q a
  pub near : (i : ℕ) → i < tail → key g q i ≤ (a + 1) * 16
  pub done : (i w : ℕ) → i < a → Link g (node_at q i) w → Met q tail i w

module _ {g : Graph} {ms q : List ℕ} {tail : ℕ} (s : Queue g ms q tail) where
  -- An entry stands after the group from which it comes.
  pub from_early : (i : ℕ) → i < tail → above_at q i ≤ i
  from_early i l = go (ℕ_discrete i 0)
    where
      go : Dec (i ≡ 0) → above_at q i ≤ i
      go (yes z) = let d : above_at q i ≡ 0 = rw z s.source_from in omega arith
      go (no n) = let o = s.origin i (omega arith) l in let f = o.from in let h = o.early in omega arith

  -- Every entry but the source holds a node.
  pub entry_node : (i : ℕ) → 1 ≤ i → i < tail → node_at q i < g.nodes
  entry_node i p l = link_node (s.origin i p l).link

  pub entry_most : (i : ℕ) → i < tail → node_at q i ≤ g.nodes
  entry_most i l = go (ℕ_discrete i 0)
    where
      go : Dec (i ≡ 0) → node_at q i ≤ g.nodes
      go (yes z) = let d : node_at q i ≡ g.nodes = rw z s.source_node in omega arith
      go (no n) = let h = entry_node i (omega arith) l in omega arith

  -- Only the source stands at index 0.
  pub after_source : (i : ℕ) → node_at q i < g.nodes → 1 ≤ i
  after_source i l = go (ℕ_discrete i 0)
    where
      go : Dec (i ≡ 0) → 1 ≤ i
      go (yes z) = let d : node_at q i ≡ g.nodes = rw z s.source_node in absurd (omega arith)
      go (no n) = omega arith
