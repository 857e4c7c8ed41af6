-- Paths of a graph from a node onwards. A walk of k + 1 symbols from a root is the same as a path of k edges from a root.
use Rattle.std.specs.Prelude.{◌≡◌, refl, true, List, [], ◌∷◌, ◌++◌, ℕ, zero, suc, ◌+◌, ◌≤◌, ◌<◌, length}
use Rattle.std.proofs.Common.{le_of_suc-le-suc, arith, length-append}
use Rattle.graph.specs.Graph.{Graph, Edge, Reach, start, onward, WalkOf, Endless}

-- A path of k edges from a node.
pub data PathFrom (g : Graph) : ℕ → ℕ → Type 0 where
  here : {v : ℕ} → PathFrom g zero v
  along : {k v w : ℕ} → Edge g v w → PathFrom g k w → PathFrom g (suc k) v

-- Some walk from a root ends at v.
pub record Reached (g : Graph) (v : ℕ) : Type 0 where
  pub symbols : List ℕ
  pub walk : Reach g symbols v

-- A path of k edges from some root.
pub record RootPath (g : Graph) (k : ℕ) : Type 0 where
  pub node : ℕ
  pub inside : node < g.nodes
  pub root : g.root node ≡ true
  pub path : PathFrom g k node

module _ {g : Graph} where
  pub shorter : {k v : ℕ} (j : ℕ) → j ≤ k → PathFrom g k v → PathFrom g j v
  shorter zero h p = here
  shorter (suc j) h here = absurd (omega arith)
  shorter (suc j) h (along e p) = along e (shorter j (le_of_suc-le-suc h) p)

  stop : {m : List ℕ} {v : ℕ} (n : ℕ) → Reach g m v → length m + 0 ≡ n → WalkOf g n
  stop {m} {v} n r e = record { symbols = m; end = v; walk = r; long = omega arith }

  -- A walk goes on along a path.
  pub extend : {m : List ℕ} {k v : ℕ} (n : ℕ) → Reach g m v → PathFrom g k v → length m + k ≡ n → WalkOf g n
  extend {m = m} n r here e = stop n r e
  extend {m = m} n r (along {w = w} s p) e = extend {m = m ++ (g.symbol w ∷ [])} n (onward r s refl) p (omega (arith, length-append m (g.symbol w ∷ [])))

  -- A walk and a path from its end make one path from the root.
  pub begin : {m : List ℕ} {k v : ℕ} (n : ℕ) → Reach g m v → PathFrom g k v → length m + k ≡ suc n → RootPath g n
  begin {k = k} {v = v} n (start inside root s) p e =
      let q : k ≡ n = omega arith in
      record { node = v; inside = inside; root = root; path = rw q at p }
  begin n (onward {c = c} {m = m} r s t) p e = begin n r (along s p) (omega (arith, length-append m (c ∷ [])))

  pub walk_of_path : {k : ℕ} → RootPath g k → WalkOf g (suc k)
  walk_of_path {k} p = extend (suc k) (start p.inside p.root refl) p.path (omega arith)

  pub path_of_walk : {k : ℕ} → WalkOf g (suc k) → RootPath g k
  path_of_walk {k} w = begin k w.walk here (omega (arith, w.long))

  pub reached_root : {v : ℕ} → v < g.nodes → g.root v ≡ true → Reached g v
  reached_root {v} inside root = record { symbols = g.symbol v ∷ []; walk = start inside root refl }

  pub reached_edge : {v w : ℕ} → Reached g v → Edge g v w → Reached g w
  reached_edge {w = w} r e = record { symbols = r.symbols ++ (g.symbol w ∷ []); walk = onward r.walk e refl }

  -- Where paths of every length go on from a node that is reached, there are walks of every length.
  pub endless : {v : ℕ} → Reached g v → ((k : ℕ) → PathFrom g k v) → Endless g
  endless r p k =
      let q = begin (length r.symbols + k) r.walk (p (suc k)) (omega arith) in
      walk_of_path (record { node = q.node; inside = q.inside; root = q.root; path = shorter k (omega arith) q.path })
