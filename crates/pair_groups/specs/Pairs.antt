-- The slots of a pair of places, and of the source, as the search goes through them. They lead along the links of the graph of pairs, along every link, and only
-- to pairs with the lower place first.
use Rattle.std.specs.Prelude.{◌≡◌, refl, Bool, true, false, List, ◌⊎◌, ℕ, ◌+◌, ◌*◌, ◌≤◌, ◌<◌}
use Rattle.std.proofs.Common.{sym, ap, ◌∙◌, subst, inl, inr, arith, eq-eqb}
use Rattle.std.proofs.Math.Decide.{dec_lt, dec_le, ℕ_discrete}
use Rattle.code.specs.Definitions.Sheets.{limits}
use Rattle.graph.specs.Graph.{Edge}
use Rattle.pair_places.specs.Flat.{symbol_at, end_at, opens_at, first_at, at_start, Laid, onward, slots_of, arc_from, cell_count, lower, higher}
use Rattle.pair_places.specs.Nodes.{NodeOf, Leads, node_of, of_node, node_high, node_pair, lower_below}
use Rattle.pair_places.specs.Onward.{inside, arc_within}
use Rattle.pair_places.specs.Opens.{straight_on, turning, pair_behind, toward, open_graph, Comes, in_order_le, behind_comes, comes_behind, turning_source, turning_end, turning_apart, turning_closed, turning_inside, toward-turning, toward_other, arc_leads, leads_open, comes_open, root_comes, comes_root}
use Rattle.pair_places.specs.Roots.{Numbered, symbol_low}
use Rattle.pair_slots.specs.Widths.{leads_on, width, width_on, width-turning}
use Rattle.pair_groups.specs.Links.{Link, begin, along}
use Rattle.pair_groups.specs.Queue.{Bounded}
use Rattle.pair_groups.specs.Slots.{Slot, Slots}

-- The symbol of an arrival is that of either place.
pub arrival_symbol : {f : List ℕ} {p q w : ℕ} → NodeOf f p q w → Dec (p ≤ q) → (symbol_at f p ≡ symbol_at f (higher f w)) × (symbol_at f q ≡ symbol_at f (higher f w))
arrival_symbol {f} {p} {q} {w} m (yes l) = let e : higher f w ≡ q = node_high m ∙ omega arith in rw e (m.same, refl)
arrival_symbol {f} {p} {q} {w} m (no l) = let e : higher f w ≡ p = node_high m ∙ omega arith in rw e (refl, sym m.same)

module _ {f : List ℕ} (laid : Laid f) (n : Numbered f) where
  turning_else : (v : ℕ) → v < cell_count f → (turning f v < straight_on → ⊥) → Dec (lower f v ≡ higher f v) → (b o : Bool) → end_at f (lower f v) ≡ b → opens_at f ≡ o
      → turning f v ≡ straight_on
  turning_else v h l (yes d) false o e u = turning_inside f v h e
  turning_else v h l (no d) b o e u = turning_apart f v h d
  turning_else v h l (yes d) true false e u = turning_closed f v h u
  turning_else v h l (yes d) true true e u =
      let z = turning_end f v h d e u in
      let o = laid.owners (lower f v) (lower_below f laid h) in
      absurd (l (omega arith))

  turning_most : (v : ℕ) → v < cell_count f → Dec (turning f v < straight_on) → (turning f v < straight_on) ⊎ (turning f v ≡ straight_on)
  turning_most v h (yes l) = inl l
  turning_most v h (no l) = inr (turning_else v h l (ℕ_discrete (lower f v) (higher f v)) (end_at f (lower f v)) (opens_at f) refl refl)

  sound_node : (v j : ℕ) → v < cell_count f → toward f v j < cell_count f → (turning f v < straight_on) ⊎ (turning f v ≡ straight_on) → Link (open_graph f) v (toward f v j)
  sound_node v j l h (inl z) =
      let e = toward-turning f v j z in
      let k : pair_behind f (turning f v) j < cell_count f = rw e at h in
      rw e (along l (comes_open f laid z k (behind_comes f (turning f v) j k)))
  sound_node v j l h (inr z) =
      let e = toward_other f v j z in
      let k : arc_from f (lower f v) (higher f v) j < cell_count f = rw e at h in
      rw e (along l (leads_open f laid z (arc_leads f v j refl k)))

  pair_sound : (v j : ℕ) → v ≤ cell_count f → toward f v j < cell_count f → Dec (v < cell_count f) → Link (open_graph f) v (toward f v j)
  pair_sound v j l h (yes b) = sound_node v j b h (turning_most v b (dec_lt (turning f v) straight_on))
  pair_sound v j l h (no b) =
      let t = turning_source f v (omega arith) in
      let e = toward-turning f v j (omega arith) ∙ ap (λ (y : ℕ). pair_behind f y j) t in
      let k : pair_behind f at_start j < cell_count f = rw e at h in
      rw e (begin {v = v} (omega arith) k (comes_root f n k (behind_comes f at_start j k)))

  -- A turning pair has a slot for each two words.
  complete_turning : (v t : ℕ) {w : ℕ} → turning f v < straight_on → Comes f (turning f v) w → Slot (toward f) (width f v t) v w
  complete_turning v t {w} z c =
      let o = in_order_le f c.x c.y c.order in
      let k = c.known in
      let d = laid.words in
      record {
        slot = c.x * limits.words + c.y;
        below = let e = width-turning f v t z in omega arith;
        leads = toward-turning f v (c.x * limits.words + c.y) z ∙ comes_behind f laid c;
      }

  -- Two ends have no slot.
  ends_none : (p q : ℕ) → end_at f p ≡ true → end_at f q ≡ true → slots_of f p q ≡ 0
  ends_none p q a b = simp (a, b)

  on_left : (p q : ℕ) {t : ℕ} → end_at f p ≡ false → symbol_at f (p + 1) ≡ t → leads_on f p q t ≡ true
  on_left p q a e = simp (a, eq-eqb _ _ e)

  on_right : (p q : ℕ) {t : ℕ} → end_at f p ≡ true → symbol_at f (q + 1) ≡ t → leads_on f p q t ≡ true
  on_right p q a e = simp (a, eq-eqb _ _ e)

  -- The symbol of an arrival leads the pair on.
  arrival_leads : (p q j : ℕ) {w : ℕ} → j < slots_of f p q → NodeOf f (onward f p j) (onward f q j) w → leads_on f p q (symbol_at f (higher f w)) ≡ true
  arrival_leads p q j {w} l m = go (end_at f p) refl (end_at f q) refl
    where
      s : (symbol_at f (onward f p j) ≡ symbol_at f (higher f w)) × (symbol_at f (onward f q j) ≡ symbol_at f (higher f w))
      s = arrival_symbol m (dec_le (onward f p j) (onward f q j))

      go : (a : Bool) → end_at f p ≡ a → (b : Bool) → end_at f q ≡ b → leads_on f p q (symbol_at f (higher f w)) ≡ true
      go false x b y = on_left p q x (ap (symbol_at f) (sym (inside f p j x)) ∙ s.0)
      go true x false y = on_right p q x (ap (symbol_at f) (sym (inside f q j y)) ∙ s.1)
      go true x true y = let e = ends_none p q x y in absurd (omega arith)

  complete_node : (v : ℕ) {w : ℕ} → turning f v ≡ straight_on → Leads f v w → Slot (toward f) (width f v (symbol_at f (higher f w))) v w
  complete_node v {w} z d =
      let e = width_on f v (symbol_at f (higher f w)) z (arrival_leads (lower f v) (higher f v) d.slot d.within d.pair) in
      record {
        slot = d.slot;
        below = rw e d.within;
        leads = toward_other f v d.slot z ∙ arc_within f (lower f v) (higher f v) d.slot d.within ∙ of_node d.pair;
      }

  by_turning : (v w : ℕ) → Edge (open_graph f) v w → (turning f v < straight_on) ⊎ (turning f v ≡ straight_on) → Comes f (turning f v) w ⊎ Leads f v w
  by_turning v w e (inl z) =
      let a = sym (toward-turning f v e.slot z) ∙ e.leads in
      inl (subst (Comes f (turning f v)) a (behind_comes f (turning f v) e.slot (subst (λ (k : ℕ). k < cell_count f) (sym a) e.node)))
  by_turning v w e (inr z) = inr (arc_leads f v e.slot (sym (toward_other f v e.slot z) ∙ e.leads) e.node)

  complete_edge : (v w : ℕ) → Edge (open_graph f) v w → (turning f v < straight_on) ⊎ (turning f v ≡ straight_on) → Slot (toward f) (width f v (symbol_at f (higher f w))) v w
  complete_edge v w e (inl z) =
      let a = sym (toward-turning f v e.slot z) ∙ e.leads in
      complete_turning v (symbol_at f (higher f w)) z (subst (Comes f (turning f v)) a
      (behind_comes f (turning f v) e.slot (subst (λ (k : ℕ). k < cell_count f) (sym a) e.node)))
  complete_edge v w e (inr z) = complete_node v z (arc_leads f v e.slot (sym (toward_other f v e.slot z) ∙ e.leads) e.node)

  pair_complete : (v w : ℕ) → Link (open_graph f) v w → Slot (toward f) (width f v (symbol_at f (higher f w))) v w
  pair_complete v w (begin e l r) =
      let t = turning_source f v (omega arith) in
      complete_turning v (symbol_at f (higher f w)) (omega arith) (subst (λ (y : ℕ). Comes f y w) (sym t) (root_comes f laid n l r))
  pair_complete v w (along l e) = complete_edge v w e (turning_most v l (dec_lt (turning f v) straight_on))

  -- The slots lead along the links, and along every link.
  pub pair_slots : Slots (open_graph f) (toward f) (width f)
  pair_slots = record { sound = λ v j l h. pair_sound v j l h (dec_lt v (cell_count f)); complete = pair_complete }

  pub pair_bounded : Bounded (open_graph f)
  pair_bounded = record { symbols = symbol_low laid n }

  comes_order : {y w : ℕ} → w < cell_count f → Comes f y w → lower f w ≤ higher f w
  comes_order h c = (node_pair (node_of {f = f} (first_at f c.x) (first_at f c.y) c.node h)).order

  edge_order : {v w : ℕ} → w < cell_count f → Comes f (turning f v) w ⊎ Leads f v w → lower f w ≤ higher f w
  edge_order h (inl c) = comes_order h c
  edge_order h (inr d) = (node_pair d.pair).order

  -- Every link leads to a pair with the lower place first.
  pub link_order : {v w : ℕ} → Link (open_graph f) v w → lower f w ≤ higher f w
  link_order (begin e l r) = comes_order l (root_comes f laid n l r)
  link_order {v} {w} (along l e) = edge_order {v = v} e.node (by_turning v w e (turning_most v l (dec_lt (turning f v) straight_on)))
