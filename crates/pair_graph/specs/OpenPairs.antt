-- Pairs of paths from the beginnings on are walks of the graph, as far as the first goal; so the graph finds what is ambiguous. Where every word may begin only
-- those from different words are, which is enough: an opening can be left out.
use Rattle.std.specs.Prelude.{◌≡◌, refl, Bool, true, false, not, ◌&&◌, List, [], ◌∷◌, ◌++◌, ◌⊎◌, ℕ, suc, ◌≤◌, ◌<◌, min, max, eqb, length}
use Rattle.std.proofs.Math.Path.{sym, ap}
use Rattle.std.proofs.Common.{◌∙◌, subst, append_assoc, inl, inr, arith, length-append}
use Rattle.std.proofs.Math.Bool.{and-eq-true_iff}
use Rattle.std.proofs.Math.Decide.{ℕ_discrete, dec_le}
use borrow.Author.Tests.{eqb-false, ne_eqb, not-true}
use Rattle.code.specs.Definitions.Sheets.{limits}
use Rattle.code.specs.Definitions.Tables.{Table, size, word}
use Rattle.graph.specs.Goals.{GoalBy, GoalBefore}
use Rattle.graph.specs.Graph.{Reach, start, onward}
use Rattle.pair_places.specs.Cells.{cell_of, low_cell}
use Rattle.pair_places.specs.Flat.{symbol_at, owner_at, end_at, first_at, may_follow, at_start, may_come, opens_at, word_count, place_count, cell_count, lower, higher, slots_of}
use Rattle.pair_places.specs.Flat as Flat
use Rattle.pair_places.specs.Lays.{base}
use Rattle.pair_places.specs.Nodes.{NodeOf, of_node, node_high, node_below, node_swap, node_leads}
use Rattle.pair_places.specs.Onward.{across, banned}
use Rattle.pair_places.specs.Opens.{straight_on, turning, open_graph, apart_ends, Comes, in_order_lem, turning_end, turning_apart, turning_inside, leads_open, comes_open, comes_root}
use Rattle.pair_places.specs.Whole.{LaidOut}
use Rattle.pair_theory.specs.Apart.{stay_apart, first_apart}
use Rattle.pair_theory.specs.Ends.{ends_same}
use Rattle.pair_theory.specs.Pairs.{compatible_reached, compatible_is, compatible_same}
use Rattle.pair_theory.specs.Paths.{first_is, step_is}
use Rattle.pair_theory.specs.Places.{Place, symbol, Is, Ends, Parting, Beginning, Compatible, TwoEnds, FirstPair, CommonStep, Reached}
use Rattle.pair_theory.specs.Places.{start as begin, onward as on}
use Rattle.pair_theory.specs.Searches.{ApartEnds, WalkTo, Shows, GoalWithin, Finds, shows_finds}
use Rattle.pair_theory.specs.Unopened.{AllBegin, Unopened, ends_unopened}
use Rattle.pair_graph.specs.Numbers.{number, Way, inner, outer, number-symbol, number_first, number_below, number_owner, step_way, ends_marked, marked_ends}
use Rattle.pair_graph.specs.OpenWalks.{ReachesPair, walk_pair}

-- the node of two places
unfoldable pub node_of : Table → Place → Place → ℕ
node_of t p q = cell_of (base t (size t)) (min (number t p) (number t q)) (max (number t p) (number t q))

-- An opening of m, and not all of it, is read by a walk to a goal.
pub record GoalOnTheWay (f m : List ℕ) : Type 0 where
  pub k : List ℕ
  pub c : ℕ
  pub rest : List ℕ
  pub opening : m ≡ k ++ (c ∷ rest)
  pub goal : GoalBy (open_graph f) k

pub node_cast : {f : List ℕ} {a b c d v : ℕ} → a ≡ b → c ≡ d → NodeOf f a c v → NodeOf f b d v
node_cast e g n = rw (← e, ← g) n

-- The lower place of a node.
node_low : {f : List ℕ} {a b v : ℕ} → NodeOf f a b v → lower f v ≡ min a b
node_low {f} {a} {b} n = rw n.node (low_cell (place_count f) (min a b) (max a b) (omega (arith, n.left, n.right)))

-- A pair with an inner place does not turn.
turns_not : {f : List ℕ} {a b v : ℕ} → NodeOf f a b v → (end_at f a ≡ false) ⊎ (end_at f b ≡ false) → turning f v ≡ straight_on
turns_not {f} {a} {b} {v} n d = by (ℕ_discrete a b) d
  where
    v< : v < cell_count f
    v< = node_below n

    by : Dec (a ≡ b) → (end_at f a ≡ false) ⊎ (end_at f b ≡ false) → turning f v ≡ straight_on
    by (yes e) (inl z) = let q : lower f v ≡ a = omega (arith, node_low n) in turning_inside f v v< (ap (end_at f) q ∙ z)
    by (yes e) (inr z) = let q : lower f v ≡ b = omega (arith, node_low n) in turning_inside f v v< (ap (end_at f) q ∙ z)
    by (no e) z = turning_apart f v v< (λ h. e (omega (arith, node_low n, node_high n, h)))

-- Words that may come behind y, in either order.
comes_of : {f : List ℕ} (z x y v : ℕ) → x < word_count f → y < word_count f → may_come f x z ≡ true → may_come f y z ≡ true → (x ≡ y → opens_at f ≡ true)
    → NodeOf f (first_at f x) (first_at f y) v → Comes f z v
comes_of {f} z x y v h k a b o n = by (dec_le x y)
  where
    by : Dec (x ≤ y) → Comes f z v
    by (yes l) = record { x = x; y = y; order = in_order_lem f x y l o; known = k; left = a; right = b; node = of_node n }
    by (no l) = record { x = y; y = x; order = in_order_lem f y x (omega arith) (λ e. o (sym e)); known = h; left = b; right = a; node = of_node (node_swap n) }

apart_goal : (f : List ℕ) (u v w : ℕ) → lower f u ≡ v → higher f u ≡ w → (v ≡ w → ⊥) → end_at f v ≡ true → end_at f w ≡ true → apart_ends f (lower f u) (higher f u) ≡ true
unfolding apart_ends
apart_goal f u v w x y z g k = rw (x, y) (simp (ne_eqb v w z, g, k))

-- Ends of different words are a goal.
goal_node : {f : List ℕ} {a b v : ℕ} → NodeOf f a b v → (a ≡ b → ⊥) → end_at f a ≡ true → end_at f b ≡ true → apart_ends f (lower f v) (higher f v) ≡ true
goal_node {f} {a} {b} {v} n d g k = order (dec_le a b)
  where
    order : Dec (a ≤ b) → apart_ends f (lower f v) (higher f v) ≡ true
    order (yes h) = apart_goal f v a b (omega (arith, node_low n)) (omega (arith, node_high n)) d g k
    order (no h) = apart_goal f v b a (omega (arith, node_low n)) (omega (arith, node_high n)) (λ z. d (sym z)) k g

module _ {t : Table} {f : List ℕ} (l : LaidOut t f) where
  pub place_node : {p q : Place} → Is t p → Is t q → symbol t p ≡ symbol t q → NodeOf f (number t p) (number t q) (node_of t p q)
  unfolding node_of
  place_node i j e = record {
    left = number_below l i;
    right = number_below l j;
    same = number-symbol l i ∙ e ∙ sym (number-symbol l j);
    node = rw l.lays.places;
  }

  -- The symbol of a node is that of its places.
  pub node_reads : {p q : Place} → Is t p → Is t q → symbol t p ≡ symbol t q → symbol_at f (higher f (node_of t p q)) ≡ symbol t p
  node_reads {p} {q} i j e = by (dec_le (number t p) (number t q))
    where
      n : NodeOf f (number t p) (number t q) (node_of t p q)
      n = place_node i j e

      by : Dec (number t p ≤ number t q) → symbol_at f (higher f (node_of t p q)) ≡ symbol t p
      by (yes h) = let z : higher f (node_of t p q) ≡ number t q = omega (arith, node_high n) in ap (symbol_at f) z ∙ number-symbol l j ∙ sym e
      by (no h) = let z : higher f (node_of t p q) ≡ number t p = omega (arith, node_high n) in ap (symbol_at f) z ∙ number-symbol l i

  may_begin : (x : ℕ) → x < size t → t.begins x ≡ true → may_come f x at_start ≡ true
  may_begin x h e = l.lays.begins x h ∙ e

  to_root : {c : ℕ} {p q : Place} (s : FirstPair t (Beginning t) p q) → (s.x ≡ s.y → opens_at f ≡ true) → symbol t p ≡ c → Reach (open_graph f) (c ∷ []) (node_of t p q)
  to_root {p = p} {q = q} s o e =
      let i : Is t p = subst (Is t) (sym s.left) (first_is t l.fits.plain s.x s.left_known) in
      let j : Is t q = subst (Is t) (sym s.right) (first_is t l.fits.plain s.y s.right_known) in
      let n = place_node i j s.same in
      let a : number t p ≡ first_at f s.x = ap (number t) s.left ∙ number_first l s.x s.left_known in
      let b : number t q ≡ first_at f s.y = ap (number t) s.right ∙ number_first l s.y s.right_known in
      let x< : s.x < word_count f = omega (arith, s.left_known, l.lays.count) in
      let y< : s.y < word_count f = omega (arith, s.right_known, l.lays.count) in
      start (node_below n)
      (comes_root f l.numbered (node_below n)
      (comes_of at_start s.x s.y (node_of t p q) x< y< (may_begin s.x s.left_known s.starts.left) (may_begin s.y s.right_known s.starts.right) o (node_cast a b n)))
      (node_reads i j s.same ∙ e)

  -- A step from an end leads to a word that may follow.
  follows : {p q : Place} (i : Is t p) (k : Is t q) (x : ℕ) → end_at f (number t p) ≡ true → x < word_count f → Flat.onward f (number t p) x ≡ number t q
      → (b : Bool) → may_follow f x (owner_at f (number t p)) ≡ b → (may_follow f x (owner_at f (number t p)) ≡ true) × (number t q ≡ first_at f x)
  follows {p} i k x e h g true z = (z, sym g ∙ across f (number t p) x e h z)
  follows {p} i k x e h g false z = absurd (omega (arith, g, number_below l k, banned f (number t p) x e z h))

  may_come_lem : (x y : ℕ) → y < limits.words → may_follow f x y ≡ true → may_come f x y ≡ true
  may_come_lem x y h e = rw (ne_eqb y at_start (omega arith)) e

  -- Two ends with one number are one place.
  one_number : {p q : Place} → Is t p → Is t q → Ends t p → Ends t q → number t p ≡ number t q → p ≡ q
  one_number i j d e z = ends_same t d e (sym (number_owner l i) ∙ ap (owner_at f) z ∙ number_owner l j)

  -- One common step, after a walk to the pair's node. The end of one word is left where openings matter.
  module _ {m : List ℕ} {c : ℕ} {p q p' q' : Place} (i : Is t p) (j : Is t q) (e : symbol t p ≡ symbol t q) (walk : Reach (open_graph f) m (node_of t p q))
      (s : CommonStep t p q p' q') (r : symbol t p' ≡ c) (left : Ends t p → Ends t q → p ≡ q → opens_at f ≡ true) where
    i' : Is t p'
    i' = step_is t l.fits.plain i s.left

    j' : Is t q'
    j' = step_is t l.fits.plain j s.right

    here : NodeOf f (number t p) (number t q) (node_of t p q)
    here = place_node i j e

    next_node : NodeOf f (number t p') (number t q') (node_of t p' q')
    next_node = place_node i' j' s.same

    by_slot : (k : ℕ) → (end_at f (number t p) ≡ false) ⊎ (end_at f (number t q) ≡ false) → k < slots_of f (number t p) (number t q)
        → Flat.onward f (number t p) k ≡ number t p' → Flat.onward f (number t q) k ≡ number t q' → Reach (open_graph f) (m ++ (c ∷ [])) (node_of t p' q')
    by_slot k z h a b =
        onward walk (leads_open f l.laid (turns_not here z) (node_leads here k h (node_cast (sym a) (sym b) next_node)))
        (node_reads i' j' s.same ∙ r)

    -- Behind the end of one word.
    by_turn : (x y : ℕ) → number t p ≡ number t q → opens_at f ≡ true → end_at f (number t p) ≡ true → x < word_count f → y < word_count f
        → Flat.onward f (number t p) x ≡ number t p' → Flat.onward f (number t q) y ≡ number t q' → Reach (open_graph f) (m ++ (c ∷ [])) (node_of t p' q')
    by_turn x y z u d h k a b =
        let g = follows i i' x d h a (may_follow f x (owner_at f (number t p))) refl in
        let w = follows j j' y (ap (end_at f) (sym z) ∙ d) k b (may_follow f y (owner_at f (number t q))) refl in
        let low : lower f (node_of t p q) ≡ number t p = omega (arith, node_low here) in
        let same : lower f (node_of t p q) ≡ higher f (node_of t p q) = omega (arith, node_low here, node_high here) in
        let o = l.laid.owners (number t p) (number_below l i) in
        let turn : turning f (node_of t p q) ≡ owner_at f (number t p) = turning_end f (node_of t p q) (node_below here) same (ap (end_at f) low ∙ d) u ∙ ap (owner_at f) low in
        let cs : Comes f (owner_at f (number t p)) (node_of t p' q') = comes_of (owner_at f (number t p)) x y (node_of t p' q') h k
        (may_come_lem x (owner_at f (number t p)) o g.0)
        (may_come_lem y (owner_at f (number t p)) o (ap (λ (n : ℕ). may_follow f y (owner_at f n)) z ∙ w.0))
        (λ d. u)
        (node_cast g.1 w.1 next_node) in
        onward walk (comes_open f l.laid (omega arith) (node_below next_node) (subst (λ (n : ℕ). Comes f n (node_of t p' q')) (sym turn) cs))
        (node_reads i' j' s.same ∙ r)

    by_ends : (x y : ℕ) → Dec (number t p ≡ number t q) → end_at f (number t p) ≡ true → end_at f (number t q) ≡ true → x < word_count f → y < word_count f
        → Flat.onward f (number t p) x ≡ number t p' → Flat.onward f (number t q) y ≡ number t q'
        → Reach (open_graph f) (m ++ (c ∷ [])) (node_of t p' q') ⊎ GoalOnTheWay f (m ++ (c ∷ []))
    by_ends x y (yes z) a b h k g w =
        let d = marked_ends l i a in
        let u = marked_ends l j b in
        inl (by_turn x y z (left d u (one_number i j d u z)) a h k g w)
    by_ends x y (no z) a b h k g w = inr (record {
      k = m;
      c = c;
      rest = [];
      opening = refl;
      goal = record { v = node_of t p q; walk = walk; met = goal_node here z a b };
    })

    by_ways : Way t f p p' → Way t f q q' → Reach (open_graph f) (m ++ (c ∷ [])) (node_of t p' q') ⊎ GoalOnTheWay f (m ++ (c ∷ []))
    by_ways (inner a x) (inner b y) = inl (by_slot 0 (inl a) (rw (a, b) (omega arith)) (x 0) (y 0))
    by_ways (inner a x) (outer k b h y) = inl (by_slot k (inl a) (rw (a, b) h) (x k) y)
    by_ways (outer k a h x) (inner b y) = inl (by_slot k (inr b) (rw (a, b) h) x (y k))
    by_ways (outer k a h x) (outer n b z y) = by_ends k n (ℕ_discrete (number t p) (number t q)) a b h z x y

  later : {m : List ℕ} (c : ℕ) → GoalOnTheWay f m → GoalOnTheWay f (m ++ (c ∷ []))
  later c g = record {
    k = g.k;
    c = g.c;
    rest = g.rest ++ (c ∷ []);
    opening = ap (λ (z : List ℕ). z ++ (c ∷ [])) g.opening ∙ append_assoc g.k (g.c ∷ g.rest) (c ∷ []);
    goal = g.goal;
  }

  -- Where openings matter: every pair of paths from two beginnings.
  module _ (opens : opens_at f ≡ true) where
    to_edge : {m : List ℕ} {c : ℕ} {p q p' q' : Place} → Compatible t (Beginning t) m p q → Reach (open_graph f) m (node_of t p q) ⊎ GoalOnTheWay f m
        → CommonStep t p q p' q' → symbol t p' ≡ c → Reach (open_graph f) (m ++ (c ∷ [])) (node_of t p' q') ⊎ GoalOnTheWay f (m ++ (c ∷ []))
    to_edge h (inl w) s r =
        let i = compatible_is l.fits.plain h in
        by_ways i.0 i.1 (compatible_same h) w s r (λ a b d. opens) (step_way l i.0 s.left) (step_way l i.1 s.right)
    to_edge {c = c} h (inr g) s r = inr (later c g)

    from_reached : {m : List ℕ} {p q : Place} → Reached t (Beginning t) m p q → Reach (open_graph f) m (node_of t p q) ⊎ GoalOnTheWay f m
    from_reached (begin s e) = inl (to_root s (λ d. opens) e)
    from_reached (on r s e) = to_edge (compatible_reached.1 r) (from_reached r) s e

  -- Where every word may begin: pairs of paths from two different words, which stay apart until two ends are met.
  module _ (all : AllBegin t) where
    abbrev begin_apart : {p q : Place} → FirstPair t (Parting t) p q → FirstPair t (Beginning t) p q
    begin_apart s = record {
      x = s.x;
      y = s.y;
      left_known = s.left_known;
      right_known = s.right_known;
      starts = record { left = all s.x s.left_known; right = all s.y s.right_known };
      left = s.left;
      right = s.right;
      same = s.same;
    }

    -- A walk to the node of two places that differ.
    record Apart (m : List ℕ) (p q : Place) : Type 0 where
      walk : Reach (open_graph f) m (node_of t p q)
      apart : p ≡ q → ⊥

    walk_on : {m : List ℕ} {c : ℕ} {p q p' q' : Place} → Compatible t (Parting t) m p q → Apart m p q → CommonStep t p q p' q' → symbol t p' ≡ c
        → (Ends t p × Ends t q → ⊥) → Apart (m ++ (c ∷ [])) p' q' ⊎ GoalOnTheWay f (m ++ (c ∷ []))
    walk_on {m} {c} {p} {q} {p'} {q'} h a s r d =
        let i = compatible_is l.fits.plain h in
        by (by_ways i.0 i.1 (compatible_same h) a.walk s r (λ u v z. absurd (a.apart z)) (step_way l i.0 s.left) (step_way l i.1 s.right))
      where
        by : Reach (open_graph f) (m ++ (c ∷ [])) (node_of t p' q') ⊎ GoalOnTheWay f (m ++ (c ∷ [])) → Apart (m ++ (c ∷ [])) p' q' ⊎ GoalOnTheWay f (m ++ (c ∷ []))
        by (inl w) = inl (record { walk = w; apart = stay_apart a.apart d s })
        by (inr g) = inr g

    apart_step : {m : List ℕ} {c : ℕ} {p q p' q' : Place} → Compatible t (Parting t) m p q → Apart m p q → CommonStep t p q p' q' → symbol t p' ≡ c
        → Dec (Ends t p) → Dec (Ends t q) → Apart (m ++ (c ∷ [])) p' q' ⊎ GoalOnTheWay f (m ++ (c ∷ []))
    apart_step {m} {c} {p} {q} h a s r (yes d) (yes u) =
        let i = compatible_is l.fits.plain h in
        inr (record {
          k = m;
          c = c;
          rest = [];
          opening = refl;
          goal = record {
            v = node_of t p q;
            walk = a.walk;
            met = goal_node (place_node i.0 i.1 (compatible_same h)) (λ z. a.apart (one_number i.0 i.1 d u z)) (ends_marked l i.0 d) (ends_marked l i.1 u);
          };
        })
    apart_step h a s r (no d) k = walk_on h a s r (λ z. d z.0)
    apart_step h a s r (yes d) (no u) = walk_on h a s r (λ z. u z.1)

    apart_edge : {m : List ℕ} {c : ℕ} {p q p' q' : Place} → Compatible t (Parting t) m p q → Apart m p q ⊎ GoalOnTheWay f m → CommonStep t p q p' q' → symbol t p' ≡ c
        → Apart (m ++ (c ∷ [])) p' q' ⊎ GoalOnTheWay f (m ++ (c ∷ []))
    apart_edge {p = p} {q = q} h (inl a) s r = apart_step h a s r (ℕ_discrete (suc p.k) (length (word t p.w))) (ℕ_discrete (suc q.k) (length (word t q.w)))
    apart_edge {c = c} h (inr g) s r = inr (later c g)

    from_parted : {m : List ℕ} {p q : Place} → Reached t (Parting t) m p q → Apart m p q ⊎ GoalOnTheWay f m
    from_parted (begin s e) = inl (record { walk = to_root (begin_apart s) (λ d. absurd (s.starts.differ d)) e; apart = first_apart s })
    from_parted (on r s e) = apart_edge (compatible_reached.1 r) (from_parted r) s e

  -- A goal is a pair of ends of different words.
  ends_of : {m : List ℕ} {v : ℕ} (r : ReachesPair t f (Beginning t) m v) → apart_ends f (lower f v) (higher f v) ≡ true → ApartEnds t r.p r.q
  unfolding apart_ends
  ends_of {v = v} r e =
      let a = (and-eq-true_iff (not (eqb (lower f v) (higher f v))) (end_at f (lower f v) && end_at f (higher f v))).0 e in
      let b = (and-eq-true_iff (end_at f (lower f v)) (end_at f (higher f v))).0 a.1 in
      let s = r.stands in
      record {
        left = marked_ends l s.left (ap (end_at f) (sym s.low) ∙ b.0);
        right = marked_ends l s.right (ap (end_at f) (sym s.high) ∙ b.1);
        apart = λ z. eqb-false (lower f v) (higher f v) (not-true _ a.0) (s.low ∙ ap (number t) z ∙ sym s.high);
      }

  walk_to : {m : List ℕ} {p q : Place} → Compatible t (Beginning t) m p q → Reach (open_graph f) m (node_of t p q) ⊎ GoalOnTheWay f m
      → WalkTo t (Beginning t) (ApartEnds t) (open_graph f) m p q ⊎ GoalBefore (open_graph f) m
  walk_to {p = p} {q = q} h (inl w) =
      let i = compatible_is l.fits.plain h in
      inl (record {
        v = node_of t p q;
        walk = w;
        goal = λ a. goal_node (place_node i.0 i.1 (compatible_same h)) (λ z. a.apart (one_number i.0 i.1 a.left a.right z)) (ends_marked l i.0 a.left) (ends_marked l i.1 a.right);
      })
  walk_to h (inr g) = inr (record { n = g.k; goal = g.goal; before = omega (arith, ap length g.opening, length-append g.k (g.c ∷ g.rest)) })

  -- Where openings matter, the walks of the graph are the pairs of paths from the beginnings on, as far as the first goals.
  open_shows : opens_at f ≡ true → Shows t (Beginning t) (ApartEnds t) (open_graph f)
  open_shows o = record {
    pairs = λ r. let z = walk_pair l r in record { p = z.p; q = z.q; pair = z.pair; ends = ends_of z };
    walks = λ h. walk_to h (from_reached o (compatible_reached.0 h));
  }

  goal_ends : {m : List ℕ} → GoalBy (open_graph f) m → TwoEnds t m
  goal_ends h =
      let z = walk_pair l h.walk in
      let e = ends_of z h.met in
      record { p = z.p; q = z.q; pair = z.pair; left_ends = e.left; right_ends = e.right; apart = e.apart }

  -- Where every word may begin, two ends are reached without an opening.
  unopened_goal : AllBegin t → {m : List ℕ} → TwoEnds t m → GoalWithin (open_graph f) m
  unopened_goal all {m} h = by (from_parted all (compatible_reached.0 u.pair))
    where
      u : Unopened t m
      u = ends_unopened t l.fits.plain all h

      shorter : (k : List ℕ) → length k < length u.n → (u.n ≡ m) ⊎ (length u.n < length m) → length k < length m
      shorter k less (inl e) = let z = ap length e in omega arith
      shorter k less (inr d) = omega arith

      by : Apart all u.n u.p u.q ⊎ GoalOnTheWay f u.n → GoalWithin (open_graph f) m
      by (inl a) =
          let i = compatible_is l.fits.plain u.pair in
          let e = u.ends in
          record {
            n = u.n;
            goal = record {
              v = node_of t u.p u.q;
              walk = a.walk;
              met = goal_node (place_node i.0 i.1 (compatible_same u.pair)) (λ z. e.apart (one_number i.0 i.1 e.left e.right z)) (ends_marked l i.0 e.left) (ends_marked l i.1 e.right);
            };
            order = u.order;
          }
      by (inr g) =
          let less : length g.k < length u.n = omega (arith, ap length g.opening, length-append g.k (g.c ∷ g.rest)) in
          record { n = g.k; goal = g.goal; order = inr (shorter g.k less u.order) }

  -- The graph finds what is ambiguous.
  pub open_finds : (opens_at f ≡ false → AllBegin t) → Finds t (open_graph f)
  open_finds all = by (opens_at f) refl
    where
      by : (b : Bool) → opens_at f ≡ b → Finds t (open_graph f)
      by true e = shows_finds (open_shows e)
      by false e = record { ends = goal_ends; goal = unopened_goal (all e) }
