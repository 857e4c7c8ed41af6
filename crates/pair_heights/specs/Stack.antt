-- The stack of a depth-first search: a path through the nodes whose marks say so, kept by passing a slot, pushing and popping.
use Rattle.std.specs.Prelude.{◌≡◌, refl, List, ℕ, zero, suc, ◌+◌, ◌-◌, ◌≤◌, ◌<◌, length, get_or, set}
use Rattle.std.proofs.Common.{ap, sym, ◌∙◌, arith, get_or-set_same, get_or-set_other}
use Rattle.std.proofs.Math.Decide.{dec_lt}
use Rattle.graph.specs.Graph.{Graph, Edge}
use Rattle.code.specs.Laws.Cells.{on_set, on_push, total, total-set}
use Rattle.graph.specs.Paths.{PathFrom, here, along}
use Rattle.pair_storage.specs.Entries.{node_in, node_at}
use Rattle.pair_heights.specs.Marks.{OnStack, Finished, stacked, stacked_one, stacked_zero, stacked_finished}

-- One of the first d entries is that of v.
pub record At (sk : List ℕ) (d v : ℕ) : Type 0 where
  pub place : ℕ
  pub below : place < d
  pub is : node_at sk place ≡ v

-- The next slot of v, by its mark x, leads to w.
pub record Next (g : Graph) (x v w : ℕ) : Type 0 where
  pub edge : Edge g v w
  pub slot : edge.slot + 1 ≡ x

-- The first d entries of sk are the stack: each node is where the next slot of the one below leads, the nodes are apart, and they are
-- exactly those whose marks say that they are on it.
pub record Stack (g : Graph) (xs sk : List ℕ) (d : ℕ) : Type 0 where
  pub link : (i : ℕ) → i + 1 < d → Next g (get_or xs (node_at sk i) 0) (node_at sk i) (node_at sk (i + 1))
  pub on : (i : ℕ) → i < d → OnStack g (get_or xs (node_at sk i) 0)
  pub apart : (i j : ℕ) → i < d → j < d → node_at sk i ≡ node_at sk j → i ≡ j
  pub found : (v : ℕ) → OnStack g (get_or xs v 0) → At sk d v
  pub room : d ≤ total (stacked g) xs

module _ {g : Graph} {xs sk : List ℕ} {d : ℕ} (s : Stack g xs sk d) where
  -- No entry is that of a node not met before.
  pub other_new : {w : ℕ} → get_or xs w 0 ≡ 0 → (i : ℕ) → i < d → node_at sk i ≡ w → ⊥
  other_new new i h e = omega (arith, (s.on i h).0, ap (λ (v : ℕ). get_or xs v 0) e)

  -- No entry below the top is that of its node.
  pub other_top : (i : ℕ) → i < d - 1 → node_at sk i ≡ node_at sk (d - 1) → ⊥
  other_top i h e = omega (arith, s.apart i (d - 1) (omega arith) (omega arith) e)

-- A node alone is put on an empty stack.
pub stack_start : {g : Graph} (xs sk : List ℕ) (r e : ℕ) → node_in e ≡ r → r < length xs → get_or xs r 0 ≡ 0 → 0 < length sk
    → ((v : ℕ) → OnStack g (get_or xs v 0) → ⊥) → Stack g (set xs r 1) (set sk 0 e) 1
stack_start {g} xs sk r e node l new room none =
    record {
      link = λ i h. absurd (omega arith);
      on = λ i h. let z : i ≡ 0 = omega arith in rw (z, get_or-set_same sk 0 e 0 room, node, get_or-set_same xs r 1 0 l) one_on;
      apart = λ i j hi hj z. omega arith;
      found =
          on_set xs r 1 l (λ v x. OnStack g x → At (set sk 0 e) 1 v)
          (λ _. record { place = 0; below = omega arith; is = rw (get_or-set_same sk 0 e 0 room) node })
          (λ v ne o. absurd (none v o));
      room = omega (arith, total-set (stacked g) xs r 1 l, stacked_zero g new, stacked_one g one_on);
    }
  where
    one_on : OnStack g 1
    one_on = omega arith

-- The node on top gets another mark of a node on the stack.
pub stack_pass : {g : Graph} {xs sk : List ℕ} {d : ℕ} → Stack g xs sk d → (y : ℕ) → node_at sk (d - 1) < length xs → 1 ≤ d → OnStack g y
    → Stack g (set xs (node_at sk (d - 1)) y) sk d
stack_pass {g} {xs} {sk} {d} s y l some next =
    record {
      link = λ i h. rw (get_or-set_other xs u (node_at sk i) y 0 (other_top s i (omega arith))) (s.link i h);
      on = λ i h. on_set xs u y l (λ v x. OnStack g (get_or xs v 0) → OnStack g x) (λ _. next) (λ v ne p. p) (node_at sk i) (s.on i h);
      apart = s.apart;
      found = on_set xs u y l (λ v x. OnStack g x → At sk d v) (λ _. s.found u old) (λ v ne. s.found v);
      room = omega (arith, s.room, total-set (stacked g) xs u y l, stacked_one g old, stacked_one g next);
    }
  where
    u : ℕ
    u = node_at sk (d - 1)

    old : OnStack g (get_or xs u 0)
    old = s.on (d - 1) (omega arith)

-- Only the heights of entries change.
pub stack_same : {g : Graph} {xs sk sk' : List ℕ} {d : ℕ} → Stack g xs sk d → ((i : ℕ) → node_at sk' i ≡ node_at sk i) → Stack g xs sk' d
stack_same {sk = sk} {sk' = sk'} {d = d} s same =
    record {
      link = λ i h. rw (same i, same (i + 1)) (s.link i h);
      on = λ i h. rw (same i) (s.on i h);
      apart = λ i j hi hj e. s.apart i j hi hj (sym (same i) ∙ e ∙ same j);
      found = λ v o. let a = s.found v o in record { place = a.place; below = a.below; is = same a.place ∙ a.is };
      room = s.room;
    }

-- A node not met before is put on top: the next slot of the node below leads to it.
pub stack_push : {g : Graph} {xs sk : List ℕ} {d : ℕ} → Stack g xs sk d → (w e : ℕ) → node_in e ≡ w → w < length xs → get_or xs w 0 ≡ 0 → d < length sk
    → Next g (get_or xs (node_at sk (d - 1)) 0) (node_at sk (d - 1)) w → Stack g (set xs w 1) (set sk d e) (d + 1)
stack_push {g} {xs} {sk} {d} s w e node l new room next =
    record {
      link = λ i h.
          rw (get_or-set_other sk d i e 0 (omega arith), kept i (omega arith))
          (on_push sk d e room (λ j x. i + 1 ≡ j → Next g (get_or xs (node_at sk i) 0) (node_at sk i) (node_in x)) (λ q. top i q)
          (λ j k q. rw (← q) (s.link i (omega arith)))
          (i + 1) h refl);
      on =
          on_push sk d e room (λ i x. OnStack g (get_or (set xs w 1) (node_in x) 0)) (rw (node, get_or-set_same xs w 1 0 l) one_on)
          (λ i h. rw (kept i h) (s.on i h));
      apart =
          λ i j hi. on_push sk d e room (λ k x. node_at (set sk d e) i ≡ node_in x → i ≡ k)
          (on_push sk d e room (λ k x. node_in x ≡ node_in e → k ≡ d) (λ _. refl) (λ k hk q. absurd (other_new s new k hk (q ∙ node))) i hi)
          (λ k hk.
          on_push sk d e room (λ n x. node_in x ≡ node_at sk k → n ≡ k) (λ q. absurd (other_new s new k hk (sym q ∙ node))) (λ n hn q. s.apart n k hn hk q) i hi)
          j;
      found =
          on_set xs w 1 l (λ v x. OnStack g x → At (set sk d e) (d + 1) v)
          (λ _. record { place = d; below = omega arith; is = rw (get_or-set_same sk d e 0 room) node })
          (λ v ne o. at_old v (s.found v o));
      room = omega (arith, s.room, total-set (stacked g) xs w 1 l, stacked_zero g new, stacked_one g one_on);
    }
  where
    one_on : OnStack g 1
    one_on = omega arith

    kept : (i : ℕ) → i < d → get_or (set xs w 1) (node_at sk i) 0 ≡ get_or xs (node_at sk i) 0
    kept i h = get_or-set_other xs w (node_at sk i) 1 0 (other_new s new i h)

    top : (i : ℕ) → i + 1 ≡ d → Next g (get_or xs (node_at sk i) 0) (node_at sk i) (node_in e)
    top i q = let z : i ≡ d - 1 = omega arith in rw (node, z) next

    at_old : (v : ℕ) → At sk d v → At (set sk d e) (d + 1) v
    at_old v a =
        record {
          place = a.place;
          below = omega (arith, a.below);
          is = rw (get_or-set_other sk d a.place e 0 (omega (arith, a.below))) a.is;
        }

-- The node on top is finished and taken off.
pub stack_pop : {g : Graph} {xs sk : List ℕ} {d : ℕ} → Stack g xs sk d → (y : ℕ) → node_at sk (d - 1) < length xs → 1 ≤ d → Finished g y
    → Stack g (set xs (node_at sk (d - 1)) y) sk (d - 1)
stack_pop {g} {xs} {sk} {d} s y l some done =
    record {
      link = λ i h. rw (kept i (omega arith)) (s.link i (omega arith));
      on = λ i h. rw (kept i h) (s.on i (omega arith));
      apart = λ i j hi hj. s.apart i j (omega arith) (omega arith);
      found = on_set xs u y l (λ v x. OnStack g x → At sk (d - 1) v) (λ o. absurd (omega (arith, o.1))) (λ v ne o. at_rest v ne (s.found v o));
      room = omega (arith, s.room, total-set (stacked g) xs u y l, stacked_one g (s.on (d - 1) (omega arith)), stacked_finished g done);
    }
  where
    u : ℕ
    u = node_at sk (d - 1)

    kept : (i : ℕ) → i < d - 1 → get_or (set xs u y) (node_at sk i) 0 ≡ get_or xs (node_at sk i) 0
    kept i h = get_or-set_other xs u (node_at sk i) y 0 (other_top s i h)

    at_rest : (v : ℕ) → (v ≡ u → ⊥) → At sk d v → At sk (d - 1) v
    at_rest v ne a = record { place = a.place; below = go (dec_lt a.place (d - 1)); is = a.is }
      where
        go : Dec (a.place < d - 1) → a.place < d - 1
        go (yes h) = h
        go (no n) = let e : a.place ≡ d - 1 = omega (arith, a.below) in absurd (ne (sym a.is ∙ ap (λ (i : ℕ). node_at sk i) e))

-- An edge from the top to a node on the stack closes a cycle: every node on the stack has paths of every length.
pub cycle_paths : {g : Graph} {xs sk : List ℕ} {d w : ℕ} → Stack g xs sk d → Edge g (node_at sk (d - 1)) w → At sk d w
    → (k i : ℕ) → i < d → PathFrom g k (node_at sk i)
cycle_paths s e a zero i h = here
cycle_paths {g} {sk = sk} {d = d} {w = w} s e a (suc k) i h = go (cycle_paths s e a k) (dec_lt (i + 1) d)
  where
    go : ((j : ℕ) → j < d → PathFrom g k (node_at sk j)) → Dec (i + 1 < d) → PathFrom g (suc k) (node_at sk i)
    go p (yes l) = along (s.link i l).edge (p (i + 1) l)
    go p (no n) = let q : i ≡ d - 1 = omega arith in rw q (along e (rw a.is at (p a.place a.below)))
