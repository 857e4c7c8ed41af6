-- A node that is met for the first time is marked and queued: each fact about the queue holds of the old entries and of the new one.
use Rattle.std.specs.Prelude.{◌≡◌, refl, false, List, ℕ, ◌+◌, ◌*◌, ◌≤◌, ◌<◌, length, get_or, set}
use Rattle.std.proofs.Common.{◌∙◌, arith, length-set, get_or-set_same, get_or-set_other}
use Rattle.std.proofs.Math.Decide.{ℕ_discrete}
use Rattle.graph.specs.Graph.{Graph}
use Rattle.code.specs.Laws.Cells.{on_set, on_push, total, total-set}
use Rattle.pair_storage.specs.Entries.{node_in, node_at, above_at}
use Rattle.pair_storage.specs.Fields.{above_in}
use Rattle.pair_groups.specs.Links.{Link, link_node}
use Rattle.pair_groups.specs.Queue.{mark, key, Queued, Met, Origin, Queue, IsGroup, Stage, from_early}

-- A store at the queue's tail leaves the entries before it.
pub entry_old : (q : List ℕ) (tail e i : ℕ) → i < tail → get_or (set q tail e) i 0 ≡ get_or q i 0
entry_old q tail e i h = get_or-set_other q tail i e 0 (λ z. omega arith)

pub met_old : (q : List ℕ) (tail e : ℕ) {i w : ℕ} → Met q tail i w → Met (set q tail e) (tail + 1) i w
met_old q tail e m =
    record {
      index = m.index;
      below = let l = m.below in omega arith;
      node = rw (entry_old q tail e m.index m.below) m.node;
      soon = rw (entry_old q tail e m.index m.below) m.soon;
    }

queued_old : (q : List ℕ) (tail e : ℕ) {v : ℕ} → Queued q tail v → Queued (set q tail e) (tail + 1) v
queued_old q tail e m =
    record {
      index = m.index;
      below = let l = m.below in omega arith;
      node = rw (entry_old q tail e m.index m.below) m.node;
    }

origin_old : {g : Graph} (q : List ℕ) (tail e : ℕ) {i v x : ℕ} → i ≤ tail → Origin g q tail i v x → Origin g (set q tail e) (tail + 1) i v x
origin_old {g} q tail e h o =
    let l = o.early in
    let f : o.first < tail = omega arith in
    let m = o.below in
    record {
      first = o.first;
      early = o.early;
      from = o.from;
      begins = λ j d. rw (entry_old q tail e j (omega arith), entry_old q tail e o.first f) (o.begins j d);
      member = o.member;
      below = omega arith;
      same = rw (entry_old q tail e o.member m, entry_old q tail e o.first f) o.same;
      link = rw (entry_old q tail e o.member m) o.link;
    }

-- The new entry e holds the node w that comes next after member k, and the index a where the group begins.
module _ {g : Graph} {ms q : List ℕ} {tail a b t k : ℕ} (s : Stage g ms q tail a b t k) (w e : ℕ) (wide : tail < length q) (inside : k < b)
    (link : Link g (node_at q k) w) (symbol : g.symbol w ≡ t) (plain : g.goal w ≡ false) (clear : get_or ms w 0 ≡ 0)
    (node : node_in e ≡ w) (from : above_in e ≡ a + 1) where
  in_marks : w < length ms
  in_marks = let l = link_node link in let n = s.queue.size in omega arith

  at_tail : node_at (set q tail e) tail ≡ w
  at_tail = rw (get_or-set_same q tail e 0 wide) node

  key-tail : key g (set q tail e) tail ≡ (a + 1) * 16 + t
  key-tail = rw (get_or-set_same q tail e 0 wide, from, node, symbol)

  push_found : (v : ℕ) → 1 ≤ get_or (set ms w 1) v 0 → Queued (set q tail e) (tail + 1) v
  push_found =
      on_set ms w 1 in_marks (λ v x. 1 ≤ x → Queued (set q tail e) (tail + 1) v)
      (λ h. record { index = tail; below = omega arith; node = at_tail })
      (λ v ne h. queued_old q tail e (s.queue.found v h))

  -- A mark stays.
  mark_old : (v : ℕ) → 1 ≤ get_or ms v 0 → 1 ≤ get_or (set ms w 1) v 0
  mark_old = on_set ms w 1 in_marks (λ v x. 1 ≤ get_or ms v 0 → 1 ≤ x) (λ h. omega arith) (λ v ne h. h)

  push_marked : (i : ℕ) → 1 ≤ i → i < tail + 1 → 1 ≤ get_or (set ms w 1) (node_at (set q tail e) i) 0
  push_marked i p l =
      on_push q tail e wide (λ j x. 1 ≤ j → 1 ≤ get_or (set ms w 1) (node_in x) 0) (λ h. rw (node, get_or-set_same ms w 1 0 in_marks) (omega arith))
      (λ j h d. mark_old (node_at q j) (s.queue.marked j d h))
      i l p

  push_room : tail + 1 ≤ total mark (set ms w 1) + 1
  unfolding mark
  push_room = let r = s.queue.room in omega (arith, total-set mark ms w 1 in_marks)

  push_plain : (i : ℕ) → 1 ≤ i → i < tail + 1 → g.goal (node_at (set q tail e) i) ≡ false
  push_plain i p l = on_push q tail e wide (λ j x. 1 ≤ j → g.goal (node_in x) ≡ false) (λ h. rw node plain) (λ j h d. s.queue.plain j d h) i l p

  -- No key is larger than the new one.
  push_near : (i : ℕ) → i < tail + 1 → key g (set q tail e) i ≤ (a + 1) * 16 + t
  push_near =
      on_push q tail e wide (λ i x. above_in x * 16 + g.symbol (node_in x) ≤ (a + 1) * 16 + t) (rw (node, from, symbol) (omega arith)) s.near

  push_ascending : (i j : ℕ) → i ≤ j → j < tail + 1 → key g (set q tail e) i ≤ key g (set q tail e) j
  push_ascending i j h l = go (ℕ_discrete j tail)
    where
      go : Dec (j ≡ tail) → key g (set q tail e) i ≤ key g (set q tail e) j
      go (yes z) = rw (z, key-tail) (push_near i (omega arith))
      go (no n) = rw (entry_old q tail e i (omega arith), entry_old q tail e j (omega arith)) (s.queue.ascending.keys i j h (omega arith))

  new_origin : Origin g q tail tail w (a + 1)
  new_origin =
      let u = s.group.ends in
      record {
        first = a;
        early = let c = s.group.some in omega arith;
        from = refl;
        begins = s.begins;
        member = k;
        below = omega arith;
        same = s.group.same k s.from inside;
        link = link;
      }

  push_origin : (i : ℕ) → 1 ≤ i → i < tail + 1 → Origin g (set q tail e) (tail + 1) i (node_at (set q tail e) i) (above_at (set q tail e) i)
  push_origin i p l =
      on_push q tail e wide (λ j x. 1 ≤ j → Origin g (set q tail e) (tail + 1) j (node_in x) (above_in x))
      (λ h. rw (node, from) (origin_old q tail e (omega arith) new_origin))
      (λ j h d. origin_old q tail e (omega arith) (s.queue.origin j d h))
      i l p

  push_queue : Queue g (set ms w 1) (set q tail e) (tail + 1)
  push_queue =
      let l = s.queue.some in
      record {
        bounded = s.queue.bounded;
        size = length-set ms w 1 ∙ s.queue.size;
        some = omega arith;
        found = push_found;
        marked = push_marked;
        room = push_room;
        source_node = rw (entry_old q tail e 0 l) s.queue.source_node;
        source_from = rw (entry_old q tail e 0 l) s.queue.source_from;
        plain = push_plain;
        ascending = record { keys = push_ascending };
        origin = push_origin;
      }

  -- The group's key is below the new one: its `from` is at most its index.
  group_before : key g q a < (a + 1) * 16 + t
  group_before =
      let u = s.group.ends in
      let v = s.group.some in
      let f = from_early s.queue a (omega arith) in
      let c = s.queue.bounded.symbols (node_at q a) in
      omega arith

  push_group : IsGroup g (set q tail e) (tail + 1) a b
  push_group =
      let u = s.group.ends in
      let v = s.group.some in
      let first : a < tail = omega arith in
      record {
        some = v;
        ends = omega arith;
        same = λ i p l. rw (entry_old q tail e i (omega arith), entry_old q tail e a first) (s.group.same i p l);
        after = λ i p l.
            rw (entry_old q tail e a first)
            (on_push q tail e wide (λ j x. b ≤ j → key g q a < above_in x * 16 + g.symbol (node_in x)) (λ h. rw (node, from, symbol) group_before)
            (λ j h d. s.group.after j d h) i l p);
      }

  -- The search goes on with w queued.
  pub pushed : Stage g (set ms w 1) (set q tail e) (tail + 1) a b t k
  pushed =
      let u = s.group.ends in
      let v = s.group.some in
      let y = s.to in
      record {
        queue = push_queue;
        group = push_group;
        from = s.from;
        to = s.to;
        high = s.high;
        begins = λ i l. rw (entry_old q tail e i (omega arith), entry_old q tail e a (omega arith)) (s.begins i l);
        near = push_near;
        done = λ i x l d. met_old q tail e (s.done i x l (rw (entry_old q tail e i (omega arith)) at d));
        part = λ i x l c d. met_old q tail e (s.part i x l c (rw (entry_old q tail e i (omega arith)) at d));
        here = λ i x l c d. met_old q tail e (s.here i x l c (rw (entry_old q tail e i (omega arith)) at d));
      }

  -- and w is met from member k.
  pub pushed_met : Met (set q tail e) (tail + 1) k w
  pushed_met =
      let y = s.from in
      let f : above_at (set q tail e) tail ≡ a + 1 = rw (get_or-set_same q tail e 0 wide) from in
      record { index = tail; below = omega arith; node = at_tail; soon = omega arith }
