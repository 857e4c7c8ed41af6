-- Every walk ends at a node that is queued with a label no later than the walk's message, or its message lies past the frontier, where the search stands. So the
-- first goal that is met has the least message, and a queue that is done leaves no walk to a goal.
use mathlib.Core.Path.{◌≡◌, refl, sym, ◌∙◌}
use mathlib.Core.Bool.{Bool, true, false}
use mathlib.Core.List.{List, [], ◌∷◌, reverse, reverse-reverse}
use mathlib.Core.Logic.{◌⊎◌, inl, inr, ⊎_elim}
use Prim.Native.Nat.{ℕ, ◌≤◌, ◌<◌}
use native.Mathlib.Nat.{le_refl}
use native.Mathlib.Decide.{dec_lt}
use native.Mathlib.Omega.{arith}
use Rattle.code.specs.Definitions.Orders.{Shortlex}
use Rattle.graph.specs.Goals.{NoGoal, LeastGoal}
use Rattle.graph.specs.Graph.{Graph}
use Rattle.pair_storage.specs.Entries.{node_at}
use Rattle.pair_groups.specs.Backward.{NoLater, ahead, no_later_trans, sooner_no_later, sooner_longer, more_no_later, sooner_shortlex}
use Rattle.pair_groups.specs.Links.{Link, Walk, none, more, link_node, reach_node, reach_walk, walk_reach}
use Rattle.pair_groups.specs.Queue.{Met, Queue, Stage, Between, after_source}
use Rattle.pair_groups.specs.Labels.{Label, source, grown, label_of, same_label, sooner_label, no_later_label, label_walk}

-- Number v is queued with a label that comes no later than m.
pub record Reached (g : Graph) (q : List ℕ) (tail : ℕ) (m : List ℕ) (v : ℕ) : Type 0 where
  pub index : ℕ
  pub below : index < tail
  pub node : node_at q index ≡ v
  pub message : List ℕ
  pub label : Label g q index message
  pub early : NoLater message m

module _ {g : Graph} {ms q : List ℕ} {tail : ℕ} (s : Queue g ms q tail) where
  -- A node that was met from entry k has a label that comes no later than one symbol after that of k.
  met_reached : {k w : ℕ} {l m : List ℕ} → k < tail → Label g q k l → NoLater l m → Met q tail k w → w < g.nodes → Reached g q tail (g.symbol w ∷ m) w
  met_reached {k} {w} {l} {m} u x n r inside =
      let p = r.index in
      let z : 1 ≤ p = after_source s p (rw r.node inside) in
      let o = s.origin p z r.below in
      let b : o.first < tail = let d = o.early in let e = r.below in omega arith in
      let h : o.first ≤ k = let d = o.from in let e = r.soon in omega arith in
      let y = label_of s o.first b in
      let c : g.symbol (node_at q p) ≤ g.symbol w = rw r.node (le_refl (g.symbol w)) in
      record {
        index = p;
        below = r.below;
        node = r.node;
        message = g.symbol (node_at q p) ∷ y.message;
        label = grown o.early o.from refl y.label;
        early = more_no_later (no_later_trans (no_later_label s b u (s.ascending.keys o.first k h u) y.label x) n) c;
      }

  -- No goal is queued.
  not_queued : {m : List ℕ} {v : ℕ} → v < g.nodes → g.goal v ≡ true → Reached g q tail m v → ⊥
  not_queued {m} {v} l e r =
      let z : 1 ≤ r.index = after_source s r.index (rw r.node l) in
      let d : g.goal v ≡ false = rw r.node at (s.plain r.index z r.below) in
      let y : ◌≡◌ {A = Bool} true false = cc in
      let x : ◌≡◌ {A = ℕ} 0 1 = cc in
      omega arith

  reached_source : {v : ℕ} → v ≡ g.nodes → Reached g q tail [] v
  reached_source e = record { index = 0; below = s.some; node = s.source_node ∙ sym e; message = []; label = source refl; early = inl refl }

  -- Past holds of the messages past the frontier.
  module _ (Past : List ℕ → Type 0) (longer : (m : List ℕ) (c : ℕ) → Past m → Past (c ∷ m))
      (closed : (k w : ℕ) (l m : List ℕ) → k < tail → Label g q k l → NoLater l m → Link g (node_at q k) w → Met q tail k w ⊎ Past (g.symbol w ∷ m)) where
    reached_more : {v w c : ℕ} {m : List ℕ} → Link g v w → g.symbol w ≡ c → Reached g q tail m v ⊎ Past m → Reached g q tail (c ∷ m) w ⊎ Past (c ∷ m)
    reached_more {c = c} {m = m} d e (inr p) = inr (longer m c p)
    reached_more {v} {w} {c} {m} d e (inl r) =
        rw (← e)
        (⊎_elim (λ x. inl (met_reached r.below r.label r.early x (link_node d))) inr
        (closed r.index w r.message m r.below r.label r.early (rw r.node d)))

    walk_reached : {m : List ℕ} {v : ℕ} → Walk g m v → Reached g q tail m v ⊎ Past m
    walk_reached (none e) = inl (reached_source e)
    walk_reached (more p d e) = reached_more d e (walk_reached p)

    -- A walk to a goal runs past the frontier.
    goal_past : {m : List ℕ} {v : ℕ} → Walk g m v → v < g.nodes → g.goal v ≡ true → Past m
    goal_past p l e = ⊎_elim (λ r. absurd (not_queued l e r)) (λ x. x) (walk_reached p)

-- The order from the back, turned round.
no_later_reach : (m n : List ℕ) → NoLater m (reverse n) → (reverse m ≡ n) ⊎ Shortlex (reverse m) n
no_later_reach m n (inl e) = inl (rw e (reverse-reverse n))
no_later_reach m n (inr p) = inr (rw (reverse-reverse n) at (sooner_shortlex p))

-- The first goal that is met: from member k of the group a to b - 1, by symbol t.
module _ {g : Graph} {ms q : List ℕ} {tail a b t k : ℕ} (s : Stage g ms q tail a b t k) where
  -- A link leads to a node that was met, or no sooner than symbol t after the label l of the group.
  stage_closed : {l : List ℕ} → Label g q a l → (i w : ℕ) (r m : List ℕ) → i < tail → Label g q i r → NoLater r m → Link g (node_at q i) w
      → Met q tail i w ⊎ NoLater (t ∷ l) (g.symbol w ∷ m)
  stage_closed {l} x i w r m u y n d = before (dec_lt i a) (dec_lt i b) (dec_lt (g.symbol w) t)
    where
      first : a < tail
      first = let c = s.group.some in let e = s.group.ends in omega arith

      before : Dec (i < a) → Dec (i < b) → Dec (g.symbol w < t) → Met q tail i w ⊎ NoLater (t ∷ l) (g.symbol w ∷ m)
      before (yes z) e c = inl (s.done i w z d)
      before (no z) (yes e) (yes c) = inl (s.part i w e c d)
      before (no z) (yes e) (no c) =
          let h : r ≡ l = same_label s.queue (s.group.same i (omega arith) e) y x in
          inr (more_no_later (rw h at n) (omega arith))
      before (no z) (no e) c = inr (inr (ahead (sooner_no_later (sooner_label s.queue first u (s.group.after i (omega arith) u) x y) n)))

  -- The first goal that is met has the least message.
  pub first_goal : (w : ℕ) → k < b → Link g (node_at q k) w → g.symbol w ≡ t → g.goal w ≡ true → (l : List ℕ) → Label g q a l → LeastGoal g (reverse (t ∷ l))
  first_goal w inside d c e l x =
      let f = s.group.ends in
      record {
        goal = record {
          v = w;
          walk = walk_reach (more (label_walk s.queue x k (omega arith) (s.group.same k s.from inside)) d c) (link_node d);
          met = e;
        };
        least = λ n y.
            no_later_reach (t ∷ l) n
            (goal_past s.queue (λ m. NoLater (t ∷ l) m) (λ m z p. no_later_trans p (inr (sooner_longer z m))) (stage_closed x) (reach_walk y.walk)
            (reach_node y.walk) y.met);
      }

-- With every group done, no walk leads to a goal.
pub no_goal : {g : Graph} {ms q : List ℕ} {tail a : ℕ} → Between g ms q tail a → tail ≤ a → NoGoal g
no_goal s h n y =
    goal_past s.queue (λ m. ⊥) (λ m c z. z) (λ i w l m u x y d. inl (s.done i w (omega arith) d)) (reach_walk y.walk) (reach_node y.walk) y.met
