-- The slots of one member: each is passed or its node is queued, and after the last one the search goes on to the next member.
use Rattle.std.specs.Prelude.{◌≡◌, false, List, ℕ, ◌+◌, ◌≤◌, ◌<◌, length, get_or, set}
use Rattle.std.proofs.Math.Decide.{dec_lt}
use Rattle.std.proofs.Common.{arith, below_more}
use Rattle.graph.specs.Graph.{Graph}
use Rattle.pair_storage.specs.Entries.{node_in, node_at}
use Rattle.pair_storage.specs.Fields.{above_in}
use Rattle.pair_groups.specs.Links.{Link, link_node}
use Rattle.pair_groups.specs.Queue.{Met, Stage}
use Rattle.pair_groups.specs.Push.{pushed, pushed_met, met_old, entry_old}

-- Slot `slot`, one of the first n, leads from v to w.
pub record Slot (to : ℕ → ℕ → ℕ) (n v w : ℕ) : Type 0 where
  pub slot : ℕ
  pub below : slot < n
  pub leads : to v slot ≡ w

-- Where the slots of a number lead, and how many of them may lead on by a symbol. They lead along links, and along every link.
pub record Slots (g : Graph) (to width : ℕ → ℕ → ℕ) : Type 0 where
  pub sound : (v j : ℕ) → v ≤ g.nodes → to v j < g.nodes → Link g v (to v j)
  pub complete : (v w : ℕ) → Link g v w → Slot to (width v (g.symbol w)) v w

-- At member k, symbol t is done for the slots below c.
pub record SlotStage (g : Graph) (to : ℕ → ℕ → ℕ) (ms q : List ℕ) (tail a b t k c : ℕ) : Type 0 where
  pub stage : Stage g ms q tail a b t k
  pub now : (j : ℕ) → j < c → to (node_at q k) j < g.nodes → g.symbol (to (node_at q k) j) ≡ t → Met q tail k (to (node_at q k) j)

module _ {g : Graph} {to : ℕ → ℕ → ℕ} {ms q : List ℕ} {tail a b t k : ℕ} where
  pub slots_begin : Stage g ms q tail a b t k → SlotStage g to ms q tail a b t k 0
  slots_begin s = record { stage = s; now = λ j l. absurd (omega arith) }

  module _ {c : ℕ} (r : SlotStage g to ms q tail a b t k c) where
    -- A slot is done where it leads to no node by t that was not met.
    pub pass : (to (node_at q k) c < g.nodes → g.symbol (to (node_at q k) c) ≡ t → Met q tail k (to (node_at q k) c)) → SlotStage g to ms q tail a b t k (c + 1)
    pass m =
        record {
          stage = r.stage;
          now = below_more (λ j. to (node_at q k) j < g.nodes → g.symbol (to (node_at q k) j) ≡ t → Met q tail k (to (node_at q k) j)) c r.now m;
        }

    -- A marked node was met, from this group or an earlier one.
    pub met_marked : t < 16 → (w : ℕ) → 1 ≤ get_or ms w 0 → Met q tail k w
    met_marked low w h =
        let m = r.stage.queue.found w h in
        let n = r.stage.near m.index m.below in
        let l = r.stage.from in
        record { index = m.index; below = m.below; node = m.node; soon = omega arith }

    -- A node that was not met is queued.
    pub push : (w e : ℕ) → tail < length q → k < b → Link g (node_at q k) w → g.symbol w ≡ t → g.goal w ≡ false → get_or ms w 0 ≡ 0
        → node_in e ≡ w → above_in e ≡ a + 1 → to (node_at q k) c ≡ w → SlotStage g to (set ms w 1) (set q tail e) (tail + 1) a b t k (c + 1)
    push w e wide inside link symbol plain clear node from leads =
        let s = r.stage in
        let u = s.group.ends in
        let o = entry_old q tail e k (omega arith) in
        record {
          stage = pushed s w e wide inside link symbol plain clear node from;
          now =
              rw o
              (below_more
              (λ j. to (node_at q k) j < g.nodes → g.symbol (to (node_at q k) j) ≡ t → Met (set q tail e) (tail + 1) k (to (node_at q k) j))
              c
              (λ j l n d. met_old q tail e (r.now j l n d))
              (λ n d. rw leads (pushed_met s w e wide inside link symbol plain clear node from)));
        }

    -- After the last slot, the next member.
    pub next_member : {width : ℕ → ℕ → ℕ} → Slots g to width → width (node_at q k) t ≤ c → k < b → Stage g ms q tail a b t (k + 1)
    next_member {width} z h inside =
        let s = r.stage in
        record {
          queue = s.queue;
          group = s.group;
          from = let l = s.from in omega arith;
          to = omega arith;
          high = s.high;
          begins = s.begins;
          near = s.near;
          done = s.done;
          part = s.part;
          here = λ i w l. below_more (λ j. (w : ℕ) → g.symbol w ≤ t → Link g (node_at q j) w → Met q tail j w) k (λ j d w'. s.here j w' d) last i l w;
        }
      where
        by_slot : (w : ℕ) → g.symbol w ≡ t → Link g (node_at q k) w → Slot to (width (node_at q k) (g.symbol w)) (node_at q k) w → Met q tail k w
        by_slot w e d y =
            let n : to (node_at q k) y.slot < g.nodes = rw y.leads (link_node d) in
            let x : g.symbol (to (node_at q k) y.slot) ≡ t = rw y.leads e in
            let l : y.slot < width (node_at q k) t = rw e at y.below in
            rw y.leads at (r.now y.slot (omega arith) n x)

        decide : (w : ℕ) → g.symbol w ≤ t → Link g (node_at q k) w → Dec (g.symbol w < t) → Met q tail k w
        decide w h d (yes l) = r.stage.part k w inside l d
        decide w h d (no n) = by_slot w (omega arith) d (z.complete (node_at q k) w d)

        last : (w : ℕ) → g.symbol w ≤ t → Link g (node_at q k) w → Met q tail k w
        last w h d = decide w h d (dec_lt (g.symbol w) t)
