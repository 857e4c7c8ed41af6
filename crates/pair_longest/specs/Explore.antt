-- The search from one root: what the functions promise, and a lemma for each way through them.
use Rattle.std.specs.Prelude.{◌≡◌, Option, Some, None, refl, true, List, ℕ, ◌+◌, ◌-◌, ◌≤◌, ◌<◌, length, get_or}
use Rattle.std.proofs.Common.{arith, length-set, get_or-set_same}
use Rattle.pair_places.specs.declared.Pair.{Pair}
use Rattle.pair_places.specs.Flat.{cell_count, pair_graph}
use Rattle.pair_places.specs.Nodes.{cell_inside, cells_most}
use Rattle.pair_places.specs.Steps.{pair_cell}
use Rattle.code.specs.Laws.Cells.{total}
use Rattle.graph.specs.Heights.{Height}
use Rattle.pair_storage.specs.Fields.{pair_room}
use Rattle.pair_storage.specs.Entries.{entries_in, entry_of, node_entry, above_entry, length_entries_in}
use Rattle.pair_storage.specs.Marks.{marks}
use Rattle.pair_storage.specs.Stores.{Marked, mark_of, Stored}
use Rattle.pair_longest.specs.Answer.{Answer, finite, unbounded}
use Rattle.pair_heights.specs.Marks.{finished, left}
use Rattle.pair_heights.specs.State.{Idle, State, begun, ended, all_finished}
use Rattle.pair_heights.specs.Transitions.{Stepped}
use Rattle.pair_heights.specs.Search.{finished_from, Advanced, moved, closed}

-- No search is under way; p is a root.
pub record AtRoot (f xs sk : List ℕ) (p : Pair) : Type 0 where
  pub pair : Marked f xs p
  pub idle : Idle (pair_graph f) xs
  pub root : (pair_graph f).root (pair_cell f p) ≡ true
  pub wide : cell_count f ≤ length sk

-- A search from p is under way.
pub record Running (f xs sk : List ℕ) (p : Pair) (d : ℕ) : Type 0 where
  pub pair : Marked f xs p
  pub state : State (pair_graph f) xs sk d
  pub met : 1 ≤ mark_of f xs p

-- The search from v has ended: the longest walk from v reads n symbols, one more than v is high, and at most one for each finished pair.
pub record Explored (f : List ℕ) (v : ℕ) (xs : List ℕ) (n : ℕ) : Type 0 where
  pub idle : Idle (pair_graph f) xs
  pub edges : ℕ
  pub more : n ≡ edges + 1
  pub height : Height (pair_graph f) v edges
  pub low : n ≤ total (finished (pair_graph f)) xs

-- A pair that has a mark is a node.
pub marked_node : {f xs : List ℕ} (p : Pair) → Marked f xs p → pair_cell f p < cell_count f
marked_node {f} p m = cell_inside f p.low p.high m.high m.low

-- There is room for the root on the stack, and it is put there.
pub root_room : {f xs sk : List ℕ} {p : Pair} → AtRoot f xs sk p → 0 < length sk
root_room {p = p} r = omega (arith, marked_node p r.pair, r.wide)

pub running : (w w' : List ℕ) {f : List ℕ} {p : Pair} {m : ℕ} → AtRoot f (marks f w) w p → m ≡ mark_of f (marks f w) p → m ≡ 0 → Stored f w 0 0 p 1 w'
    → Running f (marks f w') (entries_in f w') p 1
running w w' {f} {p = p} r mark new s =
    let v : ℕ = pair_cell f p in
    let n : v < cell_count f = marked_node p r.pair in
    let l : v < pair_room = omega (arith, cells_most r.pair.laid) in
    rw (s.marks, s.entries)
    record {
      pair = record { laid = r.pair.laid; size = simp length-set r.pair.size; low = r.pair.low; high = r.pair.high };
      state = begun r.idle (entries_in f w) v (entry_of 0 v) (node_entry 0 v l) (above_entry 0 v l) (omega (arith, r.wide, length_entries_in f w)) n r.root (omega arith);
      met = rw (get_or-set_same (marks f w) v 1 0 (omega (arith, r.pair.size))) (omega arith);
    }

-- A transition that closes no cycle leads to another state of the search.
was_moved : {f xs xs' sk' : List ℕ} {e : ℕ} {t : Option ℕ} → Advanced f xs xs' sk' t → t ≡ Some e → Stepped (pair_graph f) xs xs' sk' e
was_moved {e = e} (moved {d = d} s) q = let z : d ≡ e = cc in rw z at s
was_moved (closed x) q = let z : ◌≡◌ {A = ℕ} 0 1 = cc in absurd (omega arith)

pub run_on : {f xs xs' sk sk' : List ℕ} {p : Pair} {d e : ℕ} {t : Option ℕ}
    → Running f xs sk p d → Advanced f xs xs' sk' t → t ≡ Some e → Running f xs' sk' p e
run_on {f} {p = p} r a q =
    let s = was_moved a q in
    record {
      pair = record { laid = r.pair.laid; size = s.state.marks.size; low = r.pair.low; high = r.pair.high };
      state = s.state;
      met = s.met (pair_cell f p) r.met;
    }

pub run_less : {f xs xs' sk' : List ℕ} {e : ℕ} {t : Option ℕ} → Advanced f xs xs' sk' t → t ≡ Some e
    → total (left (pair_graph f)) xs' < total (left (pair_graph f)) xs
run_less a q = (was_moved a q).less

pub run_cycle : {f xs xs' sk' : List ℕ} {t : Option ℕ} {P : ℕ → Type 0} → Advanced f xs xs' sk' t → t ≡ None → Answer f P None
run_cycle (moved s) q = let z : ◌≡◌ {A = ℕ} 0 1 = cc in absurd (omega arith)
run_cycle (closed x) q = unbounded x

by_mark : {f xs : List ℕ} {v h : ℕ} → Idle (pair_graph f) xs → 1 ≤ get_or xs v 0 → h ≡ get_or xs v 0 - finished_from → Answer f (Explored f v xs) (Some (h + 1))
by_mark {v = v} {h = h} i m e =
    let d = all_finished i v m in
    finite (record { idle = i; edges = h; more = refl; height = rw e (i.marks.height v d); low = omega (arith, i.marks.low v d) })

module _ {f xs : List ℕ} {p : Pair} where
  -- The stack is empty: the root is finished.
  pub run_mark : {sk : List ℕ} {d : ℕ} → Running f xs sk p d → d ≤ 0 → finished_from ≤ mark_of f xs p
  run_mark {d = d} r l = let e : d ≡ 0 = omega arith in all_finished (ended (rw e at r.state)) (pair_cell f p) r.met

  pub run_end : {sk : List ℕ} {d h : ℕ} → Running f xs sk p d → d ≤ 0 → h ≡ mark_of f xs p - finished_from → Answer f (Explored f (pair_cell f p) xs) (Some (h + 1))
  run_end {d = d} r l q = let e : d ≡ 0 = omega arith in by_mark (ended (rw e at r.state)) r.met q

  -- The root was met before: it is finished.
  module _ {sk : List ℕ} {m : ℕ} (r : AtRoot f xs sk p) (mark : m ≡ mark_of f xs p) (met : m ≡ 0 → ⊥) where
    pub known_mark : finished_from ≤ mark_of f xs p
    known_mark = all_finished r.idle (pair_cell f p) (omega arith)

    pub known : {h : ℕ} → h ≡ mark_of f xs p - finished_from → Answer f (Explored f (pair_cell f p) xs) (Some (h + 1))
    known q = by_mark r.idle (omega arith) q
