-- The roots of the graph of pairs are the first pairs of two words in order, and every node that is reached is a pair with its lower place first.
use Rattle.std.specs.Prelude.{◌≡◌, refl, Bool, true, false, ◌&&◌, List, ℕ, ◌<◌, min, max}
use Rattle.std.proofs.Common.{sym, ap, ◌∙◌, subst, arith}
use Rattle.std.proofs.Math.Bool.{and-eq-true_iff}
use Rattle.std.proofs.Math.Dec.{ltb, eqb}
use borrow.Author.Tests.{ltb-true, eqb-true, lt-ltb, eq-eqb}
use Rattle.graph.specs.Graph.{Reach, start, onward}
use Rattle.pair_places.specs.Cells.{low_cell, high_cell, cell_back, high_below}
use Rattle.pair_places.specs.Flat.{symbol_at, owner_at, first_at, word_count, place_count, cell_count, lower, higher, Laid, is_first, rivals_at, first_pair, first_node, pair_graph}
use Rattle.pair_places.specs.Nodes.{NodeOf, IsPair, node_of, of_node, node_pair, edge_pair}
use Rattle.pair_places.specs.Steps.{start_node}

-- What holds of the flat list of every code, besides its layout.
pub record Numbered (f : List ℕ) : Type 0 where
  pub symbols : (p : ℕ) → p < place_count f → symbol_at f p < 16
  pub owned : (p : ℕ) → p < place_count f → owner_at f p < word_count f
  -- a word's first place belongs to it
  pub own : (x : ℕ) → x < word_count f → owner_at f (first_at f x) ≡ x
  -- the words' places come in the order of the words
  pub rising : (x y : ℕ) → x < y → y < word_count f → first_at f x < first_at f y

-- Words x and y, in this order, give the first pair v.
pub record Starts (f : List ℕ) (v : ℕ) : Type 0 where
  pub x : ℕ
  pub y : ℕ
  pub order : x < y
  pub known : y < word_count f
  pub node : first_node f x y ≡ v

-- The tests of a first pair, one by one.
pub record FirstTests (f : List ℕ) (p q : ℕ) : Type 0 where
  pub left : first_at f (owner_at f p) ≡ p
  pub right : first_at f (owner_at f q) ≡ q
  pub order : owner_at f p < owner_at f q
  pub same : symbol_at f p ≡ symbol_at f q
  pub rivals : rivals_at f (owner_at f p) (owner_at f q) ≡ true

module _ (f : List ℕ) where
  pub node_rivals : (x y : ℕ) → rivals_at f x y ≡ true → first_node f x y ≡ start_node f x y
  unfolding first_node
  node_rivals x y e = rw e

  pub node_not : (x y : ℕ) → rivals_at f x y ≡ false → first_node f x y ≡ cell_count f
  unfolding first_node
  node_not x y e = rw e

  -- Where the first pair of two words is a node, they are rivals.
  pub rivals_of : (x y : ℕ) → first_node f x y < cell_count f → rivals_at f x y ≡ true
  rivals_of x y h = go (rivals_at f x y) refl
    where
      go : (a : Bool) → rivals_at f x y ≡ a → rivals_at f x y ≡ true
      go true e = e
      go false e = absurd (omega (arith, node_not x y e))

module _ {f : List ℕ} where
  -- Symbols are below 16.
  pub symbol_low : Laid f → Numbered f → (v : ℕ) → (pair_graph f).symbol v < 16
  symbol_low l n v = n.symbols (higher f v) (high_below (place_count f) v l.some)

  pub first_tests : (p q : ℕ) → first_pair f p q ≡ true → FirstTests f p q
  unfolding first_pair
  first_tests p q e₀ =
      let z = (and-eq-true_iff (is_first f p && is_first f q && ltb (owner_at f p) (owner_at f q) && eqb (symbol_at f p) (symbol_at f q)) (rivals_at f (owner_at f p) (owner_at f q))).0 e₀ in
      let a = (and-eq-true_iff (is_first f p && is_first f q && ltb (owner_at f p) (owner_at f q)) (eqb (symbol_at f p) (symbol_at f q))).0 z.0 in
      let b = (and-eq-true_iff (is_first f p && is_first f q) (ltb (owner_at f p) (owner_at f q))).0 a.0 in
      let c = (and-eq-true_iff (is_first f p) (is_first f q)).0 b.0 in
      record { left = eqb-true _ _ c.0; right = eqb-true _ _ c.1; order = ltb-true _ _ b.1; same = eqb-true _ _ a.1; rivals = z.1 }

  pub tests_first : (p q : ℕ) → FirstTests f p q → first_pair f p q ≡ true
  unfolding first_pair
  tests_first p q t = simp (eq-eqb _ _ t.left, eq-eqb _ _ t.right, lt-ltb _ _ t.order, eq-eqb _ _ t.same, t.rivals)

  module _ (laid : Laid f) (n : Numbered f) where
    pub first_rising : {p q : ℕ} → q < place_count f → FirstTests f p q → p < q
    first_rising {p} {q} h t = omega (arith, t.left, t.right, n.rising (owner_at f p) (owner_at f q) t.order (n.owned q h))

    start_of : {v p q : ℕ} → lower f v ≡ p → higher f v ≡ q → v < cell_count f → FirstTests f p q → Starts f v
    start_of {v} {p} {q} low high h t =
        let right : q < place_count f = omega (arith, high_below (place_count f) v laid.some) in
        let l = first_rising right t in
        let a : min p q ≡ p = omega arith in
        let b : max p q ≡ q = omega arith in
        let m : NodeOf f p q v = record { left = omega arith; right = right; same = t.same; node = rw (a, b, ← low, ← high) (sym (cell_back (place_count f) v)) } in
        record {
          x = owner_at f p;
          y = owner_at f q;
          order = t.order;
          known = n.owned q right;
          node = node_rivals f (owner_at f p) (owner_at f q) t.rivals ∙ rw (t.left, t.right) (of_node m);
        }

    -- A root is the first pair of two words in order.
    pub root_starts : {v : ℕ} → v < cell_count f → (pair_graph f).root v ≡ true → Starts f v
    root_starts {v} h e = start_of refl refl h (first_tests (lower f v) (higher f v) e)

    -- The first places of its two words make up a first pair.
    pub start_node_lem : {v : ℕ} → v < cell_count f → (s : Starts f v) → NodeOf f (first_at f s.x) (first_at f s.y) v
    start_node_lem {v} h s = node_of (first_at f s.x) (first_at f s.y) (sym (node_rivals f s.x s.y (rivals_of f s.x s.y (subst (λ (k : ℕ). k < cell_count f) (sym s.node) h))) ∙ s.node) h

    -- The first pair of two words in order is a root.
    pub starts_root : {v : ℕ} → v < cell_count f → Starts f v → (pair_graph f).root v ≡ true
    starts_root {v} h s =
        let m = start_node_lem h s in
        let l = n.rising s.x s.y s.order s.known in
        let a = n.own s.x (omega (arith, s.order, s.known)) in
        let b = n.own s.y s.known in
        let a' : min (first_at f s.x) (first_at f s.y) ≡ first_at f s.x = omega arith in
        let b' : max (first_at f s.x) (first_at f s.y) ≡ first_at f s.y = omega arith in
        let low : lower f v ≡ first_at f s.x = rw (m.node, a', b') (low_cell (place_count f) (first_at f s.x) (first_at f s.y) m.right) in
        let high : higher f v ≡ first_at f s.y = rw (m.node, a', b') (high_cell (place_count f) (first_at f s.x) (first_at f s.y) m.right) in
        rw (low, high)
        (tests_first (first_at f s.x) (first_at f s.y)
        (record { left = ap (first_at f) a; right = ap (first_at f) b; order = omega (arith, s.order); same = m.same; rivals = rw (a, b) (rivals_of f s.x s.y (subst (λ (k : ℕ). k < cell_count f) (sym s.node) h)) }))

    root_pair : {v : ℕ} → v < cell_count f → (pair_graph f).root v ≡ true → IsPair f v
    root_pair h e = node_pair (start_node_lem h (root_starts h e))

    -- Every node that is reached is a pair with its lower place first.
    pub reach_pair : {m : List ℕ} {v : ℕ} → Reach (pair_graph f) m v → IsPair f v
    reach_pair (start h e s) = root_pair h e
    reach_pair (onward r e s) = edge_pair e
