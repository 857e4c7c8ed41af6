-- Walks of the graph of pairs from the beginnings on give pairs of paths: a root is a pair of beginnings, an edge is a common step of the node's two places.
use Rattle.std.specs.Prelude.{◌≡◌, refl, Bool, true, false, List, [], ◌∷◌, ◌++◌, ℕ, ◌≤◌, ◌<◌}
use Rattle.std.proofs.Common.{sym, ap, ◌∙◌, subst, arith, ne_eqb}
use Rattle.std.proofs.Math.Decide.{dec_le, ℕ_discrete}
use Rattle.code.specs.Definitions.Sheets.{limits}
use Rattle.code.specs.Definitions.Tables.{Table, size}
use Rattle.graph.specs.Graph.{Edge, Reach, start, onward}
use Rattle.pair_places.specs.Cells.{cell_back}
use Rattle.pair_places.specs.Flat.{symbol_at, owner_at, end_at, first_at, may_follow, at_start, may_come, opens_at, word_count, place_count, cell_count, lower, higher}
use Rattle.pair_places.specs.Flat as Flat
use Rattle.pair_places.specs.Nodes.{NodeOf, Leads, node_of, node_swap, parts, cell_inside, lower_below}
use Rattle.pair_places.specs.Onward.{across}
use Rattle.pair_places.specs.Opens.{pair_behind, open_graph, Comes, in_order_le, behind_comes, turning_end, turning_apart, turning_inside, turning_closed, toward-turning, toward_other, arc_leads, root_comes}
use Rattle.pair_places.specs.Whole.{LaidOut}
use Rattle.pair_theory.specs.Pairs.{compatible_step, compatible_swap, one_symbol}
use Rattle.pair_theory.specs.Paths.{first_is, step_is}
use Rattle.pair_theory.specs.Places.{Place, first_place, symbol, Is, Beginning, Compatible, FirstPair}
use Rattle.pair_graph.specs.Numbers.{number, StepTo, number-symbol, number_first, number_below, slot_step}

-- Node v is the pair of the places p and q, p with the lower number.
pub record Stands (t : Table) (f : List ℕ) (v : ℕ) (p q : Place) : Type 0 where
  pub low : lower f v ≡ number t p
  pub high : higher f v ≡ number t q
  pub left : Is t p
  pub right : Is t q

-- The symbols m reach a pair of places from two words of S, which node v is.
pub record ReachesPair (t : Table) (f : List ℕ) (S : ℕ → ℕ → Type 0) (m : List ℕ) (v : ℕ) : Type 0 where
  pub p : Place
  pub q : Place
  pub pair : Compatible t S m p q
  pub stands : Stands t f v p q

-- What both graphs of pairs have in common: S is symmetric.
module _ {t : Table} {f : List ℕ} (l : LaidOut t f) {S : ℕ → ℕ → Type 0} (turn : (x y : ℕ) → S x y → S y x) where
  by_order : {m : List ℕ} {v : ℕ} {p q : Place} → Is t p → Is t q → NodeOf f (number t p) (number t q) v → Compatible t S m p q
      → Dec (number t p ≤ number t q) → ReachesPair t f S m v
  by_order {p = p} {q = q} i j n c (yes h) = record {
    p = p;
    q = q;
    pair = c;
    stands = record { low = (parts n h).0; high = (parts n h).1; left = i; right = j };
  }
  by_order {p = p} {q = q} i j n c (no h) = record {
    p = q;
    q = p;
    pair = compatible_swap turn c;
    stands = record { low = (parts (node_swap n) (omega arith)).0; high = (parts (node_swap n) (omega arith)).1; left = j; right = i };
  }

  reaches : {m : List ℕ} {v : ℕ} {p q : Place} → Is t p → Is t q → NodeOf f (number t p) (number t q) v → Compatible t S m p q → ReachesPair t f S m v
  reaches {p = p} {q = q} i j n c = by_order i j n c (dec_le (number t p) (number t q))

  -- The symbol of a node is that of its places.
  symbol_of_lem : {v : ℕ} {p q : Place} → Is t p → Is t q → NodeOf f (number t p) (number t q) v → symbol_at f (higher f v) ≡ symbol t p
  symbol_of_lem {v} {p} {q} i j n = by (dec_le (number t p) (number t q))
    where
      by : Dec (number t p ≤ number t q) → symbol_at f (higher f v) ≡ symbol t p
      by (yes h) = ap (symbol_at f) (parts n h).1 ∙ sym n.same ∙ number-symbol l i
      by (no h) = ap (symbol_at f) (parts (node_swap n) (omega arith)).1 ∙ number-symbol l i

  pub from_first : {c v x y : ℕ} → x < size t → y < size t → S x y → NodeOf f (number t (first_place x)) (number t (first_place y)) v
      → symbol_at f (higher f v) ≡ c → ReachesPair t f S (c ∷ []) v
  from_first {c} {x = x} {y = y} h k d n e =
      let i = first_is t l.fits.plain x h in
      let j = first_is t l.fits.plain y k in
      let first : FirstPair t S (first_place x) (first_place y) = record {
        x = x;
        y = y;
        left_known = h;
        right_known = k;
        starts = d;
        left = refl;
        right = refl;
        same = sym (number-symbol l i) ∙ n.same ∙ number-symbol l j;
      } in
      reaches i j n (one_symbol.1 (first, sym (symbol_of_lem i j n) ∙ e))

  pub from_steps : {m : List ℕ} {c w a b : ℕ} {p q : Place} → Is t p → Is t q → Compatible t S m p q → (x : StepTo t p a) (y : StepTo t q b)
      → NodeOf f (number t x.q) (number t y.q) w → symbol_at f (higher f w) ≡ c → ReachesPair t f S (m ++ (c ∷ [])) w
  from_steps {p = p} {q = q} i j h x y n e =
      let i' = step_is t l.fits.plain i x.step in
      let j' = step_is t l.fits.plain j y.step in
      reaches i' j' n
      (compatible_step
      (record {
        p = p;
        q = q;
        pair = h;
        step = record { left = x.step; right = y.step; same = sym (number-symbol l i') ∙ n.same ∙ number-symbol l j' };
        reads = sym (symbol_of_lem i' j' n) ∙ e;
      }))

  pub from_leads : {m : List ℕ} {c v w : ℕ} → ReachesPair t f S m v → Leads f v w → symbol_at f (higher f w) ≡ c → ReachesPair t f S (m ++ (c ∷ [])) w
  from_leads r d e =
      let s = r.stands in
      let n = rw (s.low, s.high) at d.pair in
      let x = slot_step l s.left d.slot n.left in
      let y = slot_step l s.right d.slot n.right in
      from_steps s.left s.right r.pair x y (rw (x.leads, y.leads) n) e

-- The graph from the beginnings on.
module _ {t : Table} {f : List ℕ} (l : LaidOut t f) where
  pub turn : (x y : ℕ) → Beginning t x y → Beginning t y x
  turn x y b = record { left = b.right; right = b.left }

  begins_of_lem : (x : ℕ) → x < size t → may_come f x at_start ≡ true → t.begins x ≡ true
  begins_of_lem x h e = sym (l.lays.begins x h) ∙ e

  from_root : {v c : ℕ} → v < cell_count f → (open_graph f).root v ≡ true → symbol_at f (higher f v) ≡ c → ReachesPair t f (Beginning t) (c ∷ []) v
  from_root {v} h e r =
      let s = root_comes f l.laid l.numbered h e in
      let y< : s.y < size t = omega (arith, s.known, l.lays.count) in
      let x< : s.x < size t = omega (arith, in_order_le f s.x s.y s.order) in
      from_first l turn x< y< (record { left = begins_of_lem s.x x< s.left; right = begins_of_lem s.y y< s.right })
      (rw (number_first l s.x x<, number_first l s.y y<) (node_of {f = f} (first_at f s.x) (first_at f s.y) s.node h)) r

  -- The pair of two places is a node.
  stands_below : {v : ℕ} {p q : Place} → Stands t f v p q → v < cell_count f
  stands_below {v} s =
      subst (λ (n : ℕ). n < cell_count f) (cell_back (place_count f) v) (cell_inside f (lower f v) (higher f v) (rw s.high (number_below l s.right)) (rw s.low (number_below l s.left)))

  -- A word that may come behind the end p gives a step.
  step_behind : {p : Place} (i : Is t p) (x : ℕ) → end_at f (number t p) ≡ true → x < word_count f → may_follow f x (owner_at f (number t p)) ≡ true → StepTo t p (first_at f x)
  step_behind {p} i x e h m =
      let a = across f (number t p) x e h m in
      let z : Flat.onward f (number t p) x < place_count f = subst (λ (n : ℕ). n < place_count f) (sym a) (l.laid.firsts x (omega (arith, l.laid.words))) in
      subst (StepTo t p) a (slot_step l i x z)

  follow_of : (x y : ℕ) → y < limits.words → may_come f x y ≡ true → may_follow f x y ≡ true
  follow_of x y h e = rw (ne_eqb y at_start (omega arith)) at e

  from_comes : {m : List ℕ} {c v w : ℕ} → ReachesPair t f (Beginning t) m v → lower f v ≡ higher f v → end_at f (lower f v) ≡ true → w < cell_count f
      → Comes f (owner_at f (lower f v)) w → symbol_at f (higher f w) ≡ c → ReachesPair t f (Beginning t) (m ++ (c ∷ [])) w
  from_comes {v = v} {w = w} r d e h k g =
      let s = r.stands in
      let o = l.laid.owners (lower f v) (omega (arith, s.low, number_below l s.left)) in
      let low = s.low in
      let high : lower f v ≡ number t r.q = d ∙ s.high in
      let x< : k.x < word_count f = omega (arith, in_order_le f k.x k.y k.order, k.known) in
      let x = step_behind s.left k.x (ap (end_at f) (sym low) ∙ e) x< (ap (λ (n : ℕ). may_follow f k.x (owner_at f n)) (sym low) ∙ follow_of k.x (owner_at f (lower f v)) o k.left) in
      let y = step_behind s.right k.y (ap (end_at f) (sym high) ∙ e) k.known (ap (λ (n : ℕ). may_follow f k.y (owner_at f n)) (sym high) ∙ follow_of k.y (owner_at f (lower f v)) o k.right) in
      let n : NodeOf f (first_at f k.x) (first_at f k.y) w = node_of {f = f} (first_at f k.x) (first_at f k.y) k.node h in
      from_steps l turn s.left s.right r.pair x y (rw (x.leads, y.leads) n) g

  from_edge : {m : List ℕ} {c v w : ℕ} → ReachesPair t f (Beginning t) m v → Edge (open_graph f) v w → symbol_at f (higher f w) ≡ c
      → Dec (lower f v ≡ higher f v) → (b o : Bool) → end_at f (lower f v) ≡ b → opens_at f ≡ o → ReachesPair t f (Beginning t) (m ++ (c ∷ [])) w
  from_edge {v = v} {w = w} r e g (yes d) true true z y =
      let v< = stands_below r.stands in
      let q = turning_end f v v< d z y in
      let o = l.laid.owners (lower f v) (lower_below f l.laid v<) in
      let a : pair_behind f (owner_at f (lower f v)) e.slot ≡ w = ap (λ (n : ℕ). pair_behind f n e.slot) (sym q) ∙ sym (toward-turning f v e.slot (omega arith)) ∙ e.leads in
      from_comes r d z e.node (subst (Comes f (owner_at f (lower f v))) a (behind_comes f (owner_at f (lower f v)) e.slot (subst (λ (n : ℕ). n < cell_count f) (sym a) e.node))) g
  from_edge {v = v} r e g (yes d) true false z y =
      let v< = stands_below r.stands in
      from_leads l turn r (arc_leads f v e.slot (sym (toward_other f v e.slot (turning_closed f v v< y)) ∙ e.leads) e.node) g
  from_edge {v = v} r e g (yes d) false o z y =
      let v< = stands_below r.stands in
      from_leads l turn r (arc_leads f v e.slot (sym (toward_other f v e.slot (turning_inside f v v< z)) ∙ e.leads) e.node) g
  from_edge {v = v} r e g (no d) b o z y =
      let v< = stands_below r.stands in
      from_leads l turn r (arc_leads f v e.slot (sym (toward_other f v e.slot (turning_apart f v v< d)) ∙ e.leads) e.node) g

  -- A walk to a node reads symbols that reach the node's two places.
  pub walk_pair : {m : List ℕ} {v : ℕ} → Reach (open_graph f) m v → ReachesPair t f (Beginning t) m v
  walk_pair (start h e c) = from_root h e c
  walk_pair (onward {v = v} r e c) = from_edge (walk_pair r) e c (ℕ_discrete (lower f v) (higher f v)) (end_at f (lower f v)) (opens_at f) refl refl
