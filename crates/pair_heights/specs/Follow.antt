-- The next slot of the pair on top is followed: what the function asks and promises, and a lemma for each way through it.
use Rattle.std.specs.Prelude.{◌≡◌, Some, None, List, ℕ, ◌+◌, ◌-◌, ◌^◌, ◌≤◌, ◌<◌, length, get_or, set}
use Rattle.std.proofs.Common.{sym, arith}
use Rattle.code.specs.Definitions.Sheets.{limits}
use Rattle.pair_places.specs.declared.Pair.{Pair}
use Rattle.pair_places.specs.Flat.{place_count, slots_of, arc_from, pair_graph}
use Rattle.pair_places.specs.Nodes.{slots_few, cell_inside, cell_outside, cells_most}
use Rattle.pair_places.specs.Steps.{pair_cell, Arrives}
use Rattle.code.specs.Laws.Cells.{total_le}
use Rattle.pair_storage.specs.Fields.{pair_room}
use Rattle.pair_storage.specs.Entries.{entries_in, entry_of, node_entry, above_entry, length_entries_in}
use Rattle.pair_storage.specs.Marks.{marks}
use Rattle.pair_storage.specs.Stores.{Marked, mark_of, Stored}
use Rattle.pair_heights.specs.Marks.{stacked, stacked_le}
use Rattle.pair_heights.specs.Pairs.{leads}
use Rattle.pair_heights.specs.Stack.{Next}
use Rattle.pair_heights.specs.State.{top, has_room}
use Rattle.pair_heights.specs.Transitions.{pass_nowhere, push, cycle}
use Rattle.pair_heights.specs.Search.{finished_from, Searching, Advanced, moved, closed}
use Rattle.pair_heights.specs.Pass.{Passed, passed}

-- A search is under way, the pair p is on top, and j is its next slot.
pub record Following (f xs sk : List ℕ) (d : ℕ) (p : Pair) (j : ℕ) : Type 0 where
  pub searching : Searching f xs sk d
  pub pair : Marked f xs p
  pub node : pair_cell f p ≡ top sk d
  pub slot : get_or xs (top sk d) 0 ≡ j + 1
  pub within : j < slots_of f p.low p.high

module _ {f xs sk : List ℕ} {d j n : ℕ} {p next : Pair} (s : Following f xs sk d p j) (a : Arrives f (arc_from f p.low p.high j) next) (count : n ≡ place_count f) where
  few : j < limits.words
  few = omega (arith, slots_few s.pair.laid p.low p.high, s.within)

  target : pair_cell f next ≡ (pair_graph f).arc (top sk d) j
  target = rw s.node at (leads f p j s.pair.high a)

  -- The slot leads nowhere.
  pub follow_nowhere : {xs' sk' : List ℕ} → n ≤ next.low → xs' ≡ set xs (pair_cell f p) (j + 2) → sk' ≡ sk → Advanced f xs xs' sk' (Some d)
  follow_nowhere h m k =
      let z : get_or xs (top sk d) 0 - 1 ≡ j = omega (arith, s.slot) in
      let y : j + 2 ≡ get_or xs (top sk d) 0 + 1 = omega (arith, s.slot) in
      let far = cell_outside f next.low next.high (omega arith) in
      moved {d = d}
      (rw (m, k, s.node, y) (pass_nowhere s.searching.state s.searching.numbers.some (omega (arith, s.slot, few)) (rw (z, ← target) far)))

  module _ (h : next.low < n) where
    edge : Next (pair_graph f) (get_or xs (top sk d) 0) (top sk d) (pair_cell f next)
    edge =
        record {
          edge = record { slot = j; within = few; leads = sym target; node = cell_inside f next.low next.high a.high (omega arith) };
          slot = omega (arith, s.slot);
        }

    module _ {m : ℕ} (mark : m ≡ mark_of f xs next) where
      -- That pair is finished.
      pub follow_pass : {xs' sk' : List ℕ} → finished_from ≤ m → Passed xs sk d (m - finished_from + 1) xs' sk' → Advanced f xs xs' sk' (Some d)
      follow_pass q t = moved (passed s.pair.laid s.searching.state s.searching.numbers.some edge (omega arith) (rw mark) t)

      -- It is on the stack.
      pub follow_cycle : {xs' sk' : List ℕ} → (m ≡ 0 → ⊥) → m < finished_from → Advanced f xs xs' sk' None
      follow_cycle q r = closed (cycle s.searching.state s.searching.numbers.some (pair_cell f next) edge.edge (omega arith, omega arith))

      -- It is not met before, and there is room for it on the stack.
      fresh : m ≡ 0 → d < length sk
      fresh q = has_room s.searching.state (pair_cell f next) edge.edge.node (omega arith)

-- A pair not met before is pushed: the link carries the two places of the pair whose mark is set.
module _ (f w : List ℕ) {d j m n : ℕ} {p next : Pair} (s : Following f (marks f w) (entries_in f w) d p j) (a : Arrives f (arc_from f p.low p.high j) next)
    (count : n ≡ place_count f) (h : next.low < n) (mark : m ≡ mark_of f (marks f w) next) (q : m ≡ 0) where
  pub push_room : d < length w
  push_room = omega (arith, fresh s a count h mark q, length_entries_in f w)

  pub push_small : d + 1 < 2 ^ 64
  push_small =
      omega (arith, s.searching.state.stack.room, total_le (stacked (pair_graph f)) (marks f w) (stacked_le (pair_graph f)), s.pair.size, cells_most s.pair.laid)

  pub follow_push : (w' : List ℕ) → Stored f w d 0 next 1 w' → Advanced f (marks f w) (marks f w') (entries_in f w') (Some (d + 1))
  follow_push w' t =
      let e = edge s a count h in
      let v : ℕ = pair_cell f next in
      let l : v < pair_room = omega (arith, e.edge.node, cells_most s.pair.laid) in
      rw (t.marks, t.entries)
      (moved (push s.searching.state s.searching.numbers.some v (entry_of 0 v) (node_entry 0 v l) (above_entry 0 v l) e (omega arith)))
