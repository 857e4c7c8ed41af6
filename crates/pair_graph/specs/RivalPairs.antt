-- The graph of pairs from rivals on shows the delay: its roots are the first pairs of rivals, its edges common steps, its goals pairs of two ends.
use Rattle.std.specs.Prelude.{◌≡◌, true, false, ◌&&◌, List, [], ◌∷◌, ◌++◌, ◌⊎◌, ◌↔◌, ℕ, ◌≤◌, ◌<◌}
use Rattle.std.proofs.Common.{sym, ap, ◌∙◌, subst, inl, inr, arith, length-append}
use Rattle.std.proofs.Math.Bool.{false≢true, and-eq-true_iff}
use Rattle.std.proofs.Math.Decide.{ℕ_discrete, dec_lt}
use Rattle.code.specs.Definitions.Sheets.{limits}
use Rattle.code.specs.Definitions.Tables.{Table, size}
use Rattle.code.specs.Laws.Below.{some_in, some_out}
use Rattle.code.specs.Laws.Endings.{Ending, ending_word}
use Rattle.code.specs.Laws.Openings.{Rivals, rivals_begin, rivals_follow, rivals_swap}
use Rattle.graph.specs.Goals.{GoalBefore}
use Rattle.graph.specs.Graph.{Reach, start, onward}
use Rattle.pair_places.specs.Flat.{symbol_at, end_at, first_at, at_start, behinds, may_come, ending_at, opens_at, both_behind, rivals_at, word_count, cell_count, lower, higher, slots_of, pair_graph}
use Rattle.pair_places.specs.Flat as Flat
use Rattle.pair_places.specs.Nodes.{NodeOf, of_node, node_below, node_swap, edge_leads, leads_edge, node_leads, node_goal}
use Rattle.pair_rivals.specs.Rivals.{rival_before, some_rivals}
use Rattle.pair_places.specs.Roots.{root_starts, start_node_lem, starts_root, rivals_of, node_rivals}
use Rattle.pair_places.specs.Whole.{LaidOut, begins_same, follow_same}
use Rattle.pair_theory.specs.Pairs.{compatible_reached, compatible_is, compatible_same}
use Rattle.pair_theory.specs.Paths.{first_is, step_is}
use Rattle.pair_theory.specs.Places.{Place, symbol, Is, Parting, Compatible, FirstPair, CommonStep, Reached}
use Rattle.pair_theory.specs.Places.{start as begin, onward as on}
use Rattle.pair_theory.specs.Searches.{BothEnd, WalkTo, Shows}
use Rattle.pair_theory.specs.Sharing.{SomeParting}
use Rattle.pair_theory.specs.Unopened.{AllBegin}
use Rattle.pair_graph.specs.Numbers.{number, Way, inner, outer, number_first, step_way, ends_marked, marked_ends}
use Rattle.pair_graph.specs.OpenWalks.{ReachesPair, from_first, from_leads}
use Rattle.pair_graph.specs.OpenPairs.{node_of, place_node, node_reads, node_cast}

-- The list's marks say which words end a permitted sequence, and whether some word may not begin.
pub record Ended (t : Table) (f : List ℕ) : Type 0 where
  pub source : ending_at f at_start ≡ true
  pub marked : (z : ℕ) → z < size t → ending_at f z ≡ true → Ending t z
  pub all : (z : ℕ) → Ending t z → ending_at f z ≡ true
  pub past : (z : ℕ) → size t ≤ z → z < limits.words → ending_at f z ≡ false
  pub closed : opens_at f ≡ false → AllBegin t

module _ {t : Table} {f : List ℕ} (l : LaidOut t f) (d : Ended t f) where
  by_word : (x y z : ℕ) → x < size t → y < size t → z < behinds → both_behind f x y z ≡ true → Dec (z ≡ at_start) → Dec (z < size t) → Rivals t x y
  by_word x y z h k b e (yes q) w =
      let a = (and-eq-true_iff (ending_at f z) (may_come f x z && may_come f y z)).0 e in
      let c = (and-eq-true_iff (may_come f x z) (may_come f y z)).0 a.1 in
      rivals_begin (sym (begins_same l x h) ∙ subst (λ (i : ℕ). may_come f x i ≡ true) q c.0) (sym (begins_same l y k) ∙ subst (λ (i : ℕ). may_come f y i ≡ true) q c.1)
  by_word x y z h k b e (no q) (yes w) =
      let a = (and-eq-true_iff (ending_at f z) (may_come f x z && may_come f y z)).0 e in
      let c = (and-eq-true_iff (may_come f x z) (may_come f y z)).0 a.1 in
      rivals_follow (d.marked z w a.0) (sym (follow_same l x z h w) ∙ c.0) (sym (follow_same l y z k w) ∙ c.1)
  by_word x y z h k b e (no q) (no w) =
      let a = (and-eq-true_iff (ending_at f z) (may_come f x z && may_come f y z)).0 e in
      absurd (false≢true (sym (d.past z (omega arith) (omega arith)) ∙ a.0))

  marked_rivals : (x y : ℕ) → x < size t → y < size t → rivals_at f x y ≡ true → Rivals t x y
  unfolding rivals_at
  marked_rivals x y h k e = let r = some_out (both_behind f x y) behinds e in by_word x y r.x h k r.below r.passes (ℕ_discrete r.x at_start) (dec_lt r.x (size t))

  both_at : (x y z : ℕ) → ending_at f z ≡ true → may_come f x z ≡ true → may_come f y z ≡ true → z < behinds → rivals_at f x y ≡ true
  unfolding rivals_at
  both_at x y z a b c h =
      some_in (both_behind f x y) behinds z h ((and-eq-true_iff (ending_at f z) (may_come f x z && may_come f y z)).1 (a, (and-eq-true_iff (may_come f x z) (may_come f y z)).1 (b, c)))

  rivals_marked : (x y : ℕ) → x < size t → y < size t → Rivals t x y → rivals_at f x y ≡ true
  rivals_marked x y h k (rivals_begin a b) = both_at x y at_start d.source (begins_same l x h ∙ a) (begins_same l y k ∙ b) (omega arith)
  rivals_marked x y h k (rivals_follow {z} e a b) =
      let w = ending_word e in
      both_at x y z (d.all z e) (follow_same l x z h w ∙ a) (follow_same l y z k w ∙ b) (omega (arith, l.fits.most))

  -- The list's rivals are those of the table.
  pub rivals_iff : (x y : ℕ) → x < size t → y < size t → (rivals_at f x y ≡ true) ↔ Rivals t x y
  rivals_iff x y h k = (marked_rivals x y h k, rivals_marked x y h k)

  -- Two different words are rivals where the list says so,
  pub some_parting : some_rivals f ≡ true → SomeParting t
  unfolding some_rivals rival_before
  some_parting e =
      let a = some_out (rival_before f) (word_count f) e in
      let b = some_out (rivals_at f a.x) a.x a.passes in
      let x< : a.x < size t = omega (arith, a.below, l.lays.count) in
      let y< : b.x < size t = omega (arith, b.below) in
      record {
        x = a.x;
        y = b.x;
        left_known = x<;
        right_known = y<;
        parting = record { differ = λ q. omega (arith, b.below); rivals = marked_rivals a.x b.x x< y< b.passes };
      }

  -- and nowhere else.
  pub none_part : some_rivals f ≡ false → (x y : ℕ) → x < size t → y < size t → (x ≡ y → ⊥) → Rivals t x y → ⊥
  unfolding some_rivals rival_before
  none_part e x y h k n r = by (dec_lt y x)
    where
      some : (x y : ℕ) → x < size t → y < x → Rivals t x y → ⊥
      some x y h k r =
          let b = some_in (rivals_at f x) x y k (rivals_marked x y h (omega arith) r) in
          false≢true (sym e ∙ some_in (rival_before f) (word_count f) x (omega (arith, l.lays.count)) b)

      by : Dec (y < x) → ⊥
      by (yes m) = some x y h m r
      by (no m) = some y x k (omega arith) (rivals_swap r)

  turn : (x y : ℕ) → Parting t x y → Parting t y x
  turn x y b = record { differ = λ e. b.differ (sym e); rivals = rivals_swap b.rivals }

  from_root : {v c : ℕ} → v < cell_count f → (pair_graph f).root v ≡ true → symbol_at f (higher f v) ≡ c → ReachesPair t f (Parting t) (c ∷ []) v
  from_root {v} h e r =
      let s = root_starts l.laid l.numbered h e in
      let y< : s.y < size t = omega (arith, s.known, l.lays.count) in
      let x< : s.x < size t = omega (arith, s.order) in
      let m = rivals_of f s.x s.y (subst (λ (k : ℕ). k < cell_count f) (sym s.node) h) in
      from_first l turn x< y< (record { differ = λ q. omega (arith, s.order, q); rivals = marked_rivals s.x s.y x< y< m })
      (rw (number_first l s.x x<, number_first l s.y y<) (start_node_lem l.laid l.numbered h s)) r

  pub rival_walk : {m : List ℕ} {v : ℕ} → Reach (pair_graph f) m v → ReachesPair t f (Parting t) m v
  rival_walk (start h e c) = from_root h e c
  rival_walk (onward r e c) = from_leads l turn (rival_walk r) (edge_leads e) c

  -- From pairs to walks.
  starts_of : {v x y : ℕ} → x < size t → y < size t → Rivals t x y → NodeOf f (first_at f x) (first_at f y) v → x < y → (pair_graph f).root v ≡ true
  starts_of {x = x} {y = y} h k r n o =
      starts_root l.laid l.numbered (node_below n)
      (record { x = x; y = y; order = o; known = omega (arith, l.lays.count); node = node_rivals f x y (rivals_marked x y h k r) ∙ of_node n })

  root_of : {v x y : ℕ} → x < size t → y < size t → Parting t x y → NodeOf f (first_at f x) (first_at f y) v → Dec (x < y) → (pair_graph f).root v ≡ true
  root_of h k r n (yes b) = starts_of h k r.rivals n b
  root_of h k r n (no b) = starts_of k h (rivals_swap r.rivals) (node_swap n) (let z = r.differ in omega arith)

  to_root : {c : ℕ} {p q : Place} → FirstPair t (Parting t) p q → symbol t p ≡ c → Reach (pair_graph f) (c ∷ []) (node_of t p q)
  to_root {p = p} {q = q} s e =
      let i : Is t p = subst (Is t) (sym s.left) (first_is t l.fits.plain s.x s.left_known) in
      let j : Is t q = subst (Is t) (sym s.right) (first_is t l.fits.plain s.y s.right_known) in
      let n = place_node l i j s.same in
      let a : number t p ≡ first_at f s.x = ap (number t) s.left ∙ number_first l s.x s.left_known in
      let b : number t q ≡ first_at f s.y = ap (number t) s.right ∙ number_first l s.y s.right_known in
      start (node_below n) (root_of s.left_known s.right_known s.starts (node_cast a b n) (dec_lt s.x s.y)) (node_reads l i j s.same ∙ e)

  module _ {m : List ℕ} {c : ℕ} {p q p' q' : Place} (i : Is t p) (j : Is t q) (e : symbol t p ≡ symbol t q) (walk : Reach (pair_graph f) m (node_of t p q))
      (s : CommonStep t p q p' q') (r : symbol t p' ≡ c) where
    i' : Is t p'
    i' = step_is t l.fits.plain i s.left

    j' : Is t q'
    j' = step_is t l.fits.plain j s.right

    by_slot : (k : ℕ) → k < slots_of f (number t p) (number t q) → Flat.onward f (number t p) k ≡ number t p' → Flat.onward f (number t q) k ≡ number t q'
        → Reach (pair_graph f) (m ++ (c ∷ [])) (node_of t p' q')
    by_slot k h a b =
        onward walk (leads_edge l.laid (node_leads (place_node l i j e) k h (node_cast (sym a) (sym b) (place_node l i' j' s.same))))
        (node_reads l i' j' s.same ∙ r)

    by_ways : Way t f p p' → Way t f q q' → Reach (pair_graph f) (m ++ (c ∷ [])) (node_of t p' q') ⊎ GoalBefore (pair_graph f) (m ++ (c ∷ []))
    by_ways (inner a x) (inner b y) = inl (by_slot 0 (rw (a, b) (omega arith)) (x 0) (y 0))
    by_ways (inner a x) (outer k b h y) = inl (by_slot k (rw (a, b) h) (x k) y)
    by_ways (outer k a h x) (inner b y) = inl (by_slot k (rw (a, b) h) x (y k))
    by_ways (outer k a h x) (outer n b z y) = inr (record {
      n = m;
      goal = record { v = node_of t p q; walk = walk; met = node_goal (place_node l i j e) a b };
      before = omega (arith, length-append m (c ∷ []));
    })

  later : {m : List ℕ} (c : ℕ) → GoalBefore (pair_graph f) m → GoalBefore (pair_graph f) (m ++ (c ∷ []))
  later {m} c g = record { n = g.n; goal = g.goal; before = let b = g.before in omega (arith, length-append m (c ∷ [])) }

  to_edge : {m : List ℕ} {c : ℕ} {p q p' q' : Place} → Compatible t (Parting t) m p q → Reach (pair_graph f) m (node_of t p q) ⊎ GoalBefore (pair_graph f) m
      → CommonStep t p q p' q' → symbol t p' ≡ c → Reach (pair_graph f) (m ++ (c ∷ [])) (node_of t p' q') ⊎ GoalBefore (pair_graph f) (m ++ (c ∷ []))
  to_edge h (inl w) s r =
      let i = compatible_is l.fits.plain h in
      by_ways i.0 i.1 (compatible_same h) w s r (step_way l i.0 s.left) (step_way l i.1 s.right)
  to_edge {c = c} h (inr g) s r = inr (later c g)

  from_reached : {m : List ℕ} {p q : Place} → Reached t (Parting t) m p q → Reach (pair_graph f) m (node_of t p q) ⊎ GoalBefore (pair_graph f) m
  from_reached (begin s e) = inl (to_root s e)
  from_reached (on r s e) = to_edge (compatible_reached.1 r) (from_reached r) s e

  ends_of : {m : List ℕ} {v : ℕ} (r : ReachesPair t f (Parting t) m v) → (pair_graph f).goal v ≡ true → BothEnd t r.p r.q
  ends_of {v = v} r e =
      let both = (and-eq-true_iff (end_at f (lower f v)) (end_at f (higher f v))).0 e in
      let s = r.stands in
      record { left = marked_ends l s.left (ap (end_at f) (sym s.low) ∙ both.0); right = marked_ends l s.right (ap (end_at f) (sym s.high) ∙ both.1) }

  walk_to : {m : List ℕ} {p q : Place} → Compatible t (Parting t) m p q → Reach (pair_graph f) m (node_of t p q) ⊎ GoalBefore (pair_graph f) m
      → WalkTo t (Parting t) (BothEnd t) (pair_graph f) m p q ⊎ GoalBefore (pair_graph f) m
  walk_to {p = p} {q = q} h (inl w) =
      let i = compatible_is l.fits.plain h in
      inl (record {
        v = node_of t p q;
        walk = w;
        goal = λ a. node_goal (place_node l i.0 i.1 (compatible_same h)) (ends_marked l i.0 a.left) (ends_marked l i.1 a.right);
      })
  walk_to h (inr g) = inr g

  -- The walks of the graph are the compatible pairs of rivals, as far as the first goals.
  pub rival_shows : Shows t (Parting t) (BothEnd t) (pair_graph f)
  rival_shows = record {
    pairs = λ r. let z = rival_walk r in record { p = z.p; q = z.q; pair = z.pair; ends = ends_of z };
    walks = λ h. walk_to h (from_reached (compatible_reached.0 h));
  }
