-- A pair with no slot left is finished and popped, and the pair below passes the slot that led to it: what the function asks, and a lemma for each way through it.
use Rattle.std.specs.Prelude.{◌≡◌, Some, List, ℕ, ◌+◌, ◌-◌, ◌≤◌, ◌<◌, length, get_or, set}
use Rattle.std.proofs.Common.{arith, get_or-set_same}
use Rattle.pair_places.specs.declared.Pair.{Pair}
use Rattle.pair_places.specs.Flat.{cell_count, pair_graph}
use Rattle.pair_places.specs.Steps.{pair_cell}
use Rattle.pair_storage.specs.Fields.{above_room, mark_room}
use Rattle.pair_storage.specs.Entries.{entries_in, above_at, links}
use Rattle.pair_storage.specs.Marks.{marks}
use Rattle.pair_storage.specs.Stores.{Marked, mark_of, MarkStored}
use Rattle.pair_heights.specs.State.{top}
use Rattle.pair_heights.specs.Transitions.{Stepped, stepped_on, below_next}
use Rattle.pair_heights.specs.Transitions as Transitions
use Rattle.pair_heights.specs.Search.{finished_from, Top, top_numbers, top_within, top_above, top_finishes, Searching, Advanced, moved}
use Rattle.pair_heights.specs.Pass.{Passed, passed}

-- A search is under way, the pair p is on top, and none of its slots from the next one on leads anywhere.
pub record Popping (f xs sk : List ℕ) (d : ℕ) (p : Pair) : Type 0 where
  pub searching : Searching f xs sk d
  pub pair : Marked f xs p
  pub node : pair_cell f p ≡ top sk d
  pub nowhere : (j : ℕ) → get_or xs (top sk d) 0 - 1 ≤ j → cell_count f ≤ (pair_graph f).arc (top sk d) j

module _ (f w : List ℕ) {d : ℕ} {p : Pair} (s : Popping f (marks f w) (entries_in f w) d p) where
  pub pop_within : d - 1 < length w
  pop_within = top_within f w s.searching.numbers

  -- The pair has the height a on its entry.
  module _ {a : ℕ} (height : a ≡ above_at (links w) (d - 1)) where
    pub pop_finishes : a + finished_from < mark_room
    pop_finishes = top_finishes f w s.searching.numbers height

    pub pop_through : a + 1 < above_room
    pop_through = omega (arith, pop_finishes)

    -- Its mark is stored.
    module _ (w₁ : List ℕ) (e : MarkStored f w p (a + finished_from) w₁) where
      finished : marks f w₁ ≡ set (marks f w) (top (entries_in f w) d) (above_at (entries_in f w) (d - 1) + finished_from)
      finished = rw (e.marks, s.node, top_above f w s.searching.numbers height)

      popped : Stepped (pair_graph f) (marks f w) (marks f w₁) (entries_in f w₁) (d - 1)
      popped = rw (finished, e.entries) (Transitions.pop s.searching.state s.searching.numbers.some s.nowhere)

      -- It was the last on the stack.
      pub pop_last : Advanced f (marks f w) (marks f w₁) (entries_in f w₁) (Some (d - 1))
      pop_last = moved popped

      -- The pair below passes the slot that led to it.
      pub pop_below : (d - 1 ≡ 0 → ⊥) → Top f (marks f w₁) (entries_in f w₁) (d - 1)
      pop_below more = top_numbers s.searching.numbers.laid popped.state (omega arith)

      mark_now : mark_of f (marks f w₁) p ≡ a + finished_from
      mark_now =
          rw e.marks
          (get_or-set_same (marks f w) (pair_cell f p) (a + finished_from) 0 (omega (arith, s.node, s.searching.numbers.node, s.searching.numbers.size)))

      pub pop_passed : {xs' sk' : List ℕ} → (d - 1 ≡ 0 → ⊥) → Passed (marks f w₁) (entries_in f w₁) (d - 1) (a + 1) xs' sk' → Advanced f (marks f w) xs' sk' (Some (d - 1))
      pop_passed more r =
          let led = below_next s.searching.state s.searching.numbers.some (omega arith) (above_at (entries_in f w) (d - 1) + finished_from) in
          moved (stepped_on popped
          (passed {w = pair_cell f p} s.searching.numbers.laid popped.state (omega arith) (rw (finished, e.entries, s.node) led) (omega (arith, mark_now))
          (omega (arith, mark_now)) r))
