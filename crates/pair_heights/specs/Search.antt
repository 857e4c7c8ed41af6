-- A search over pairs that is under way: what its functions ask, and what a transition promises.
use Rattle.std.specs.Prelude.{◌≡◌, Option, Some, None, List, ℕ, ◌+◌, ◌-◌, ◌≤◌, ◌<◌, length, get_or}
use Rattle.std.proofs.Common.{sym, ◌∙◌, arith}
use Rattle.code.specs.Definitions.Sheets.{limits}
use Rattle.pair_places.specs.declared.Pair.{Pair}
use Rattle.pair_places.specs.Flat.{Laid, place_count, cell_count, pair_graph}
use Rattle.pair_places.specs.Nodes.{cells_most}
use Rattle.pair_places.specs.Steps.{pair_cell}
use Rattle.code.specs.Laws.Cells.{total_le}
use Rattle.graph.specs.Graph.{Endless}
use Rattle.pair_storage.specs.Fields.{mark_room, Carries}
use Rattle.pair_storage.specs.Entries.{entries_in, above_at, links, length_entries_in, above_entries_in}
use Rattle.pair_storage.specs.Stores.{Marked, mark_of}
use Rattle.pair_heights.specs.Carrying.{CarriesNode, carries_node}
use Rattle.pair_heights.specs.Marks.{finished, finished_le}
use Rattle.pair_heights.specs.State.{State, top, has_entries, at_top}
use Rattle.pair_heights.specs.Transitions.{Stepped}

-- The least mark of a finished pair. A pair has no more slots than there can be words, and on the stack its mark is at most one more than these.
abbrev pub finished_from : ℕ
finished_from = limits.words + 2

-- The pair on top in numbers, on which the functions' indices and sums rest.
pub record Top (f xs sk : List ℕ) (d : ℕ) : Type 0 where
  pub laid : Laid f
  pub some : 1 ≤ d
  pub deep : d ≤ length sk
  pub size : length xs ≡ cell_count f
  pub node : top sk d < cell_count f
  pub met : 1 ≤ get_or xs (top sk d) 0
  pub low : get_or xs (top sk d) 0 ≤ limits.words + 1
  pub small : above_at sk (d - 1) ≤ cell_count f

-- The link on top: it carries the pair on top, whose mark is read and set, and the height so far above it.
module _ (f sk : List ℕ) {xs : List ℕ} {d : ℕ} (t : Top f xs (entries_in f sk) d) where
  pub top_within : d - 1 < length sk
  top_within = omega (arith, t.some, t.deep, length_entries_in f sk)

  pub top_above : {a : ℕ} → a ≡ above_at (links sk) (d - 1) → a ≡ above_at (entries_in f sk) (d - 1)
  top_above e = e ∙ sym (above_entries_in f sk t.laid (d - 1))

  -- A height has room in a mark.
  pub top_finishes : {a : ℕ} → a ≡ above_at (links sk) (d - 1) → a + finished_from < mark_room
  top_finishes e = omega (arith, top_above e, t.small, cells_most t.laid)

  module _ {p : Pair} (c : Carries (get_or sk (d - 1) 0) p) where
    on_top : CarriesNode f (top (entries_in f sk) d) p
    on_top = carries_node f sk t.laid (d - 1) t.node c

    pub top_cell : pair_cell f p ≡ top (entries_in f sk) d
    top_cell = on_top.pair.node

    pub top_low : p.low < place_count f
    top_low = on_top.low

    pub top_high : p.high < place_count f
    top_high = on_top.pair.inside

    pub top_marked : Marked f xs p
    top_marked = record { laid = t.laid; size = t.size; low = top_low; high = top_high }

    -- Its mark is met, and can rise.
    pub top_met : {m : ℕ} → m ≡ mark_of f xs p → 1 ≤ m
    top_met e = rw (e, top_cell) t.met

    pub top_rises : {m : ℕ} → m ≡ mark_of f xs p → m + 1 < mark_room
    top_rises e = rw (e, top_cell) (omega (arith, t.low))

pub top_numbers : {f xs sk : List ℕ} {d : ℕ} → Laid f → State (pair_graph f) xs sk d → 1 ≤ d → Top f xs sk d
top_numbers {f} {xs} laid s some =
    let t = at_top s some in
    record {
      laid = laid;
      some = some;
      deep = has_entries s;
      size = s.marks.size;
      node = omega (arith, t.inside, s.marks.size);
      met = t.on.0;
      low = t.on.1;
      small = omega (arith, t.height.low, total_le (finished (pair_graph f)) xs (finished_le (pair_graph f)), s.marks.size);
    }

-- A search is under way and its stack is not empty.
pub record Searching (f xs sk : List ℕ) (d : ℕ) : Type 0 where
  pub state : State (pair_graph f) xs sk d
  pub numbers : Top f xs sk d

pub searching : {f xs sk : List ℕ} {d : ℕ} → Laid f → State (pair_graph f) xs sk d → 1 ≤ d → Searching f xs sk d
searching l s some = record { state = s; numbers = top_numbers l s some }

-- A transition of the state; or a cycle is closed, so that there are walks of every length.
pub data Advanced (f xs xs' sk' : List ℕ) : Option ℕ → Type 0 where
  moved : {d : ℕ} → Stepped (pair_graph f) xs xs' sk' d → Advanced f xs xs' sk' (Some d)
  closed : Endless (pair_graph f) → Advanced f xs xs' sk' None
