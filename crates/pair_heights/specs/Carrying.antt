-- The links on the stack carry the two places of the pairs whose marks the search reads and sets.
use Rattle.std.specs.Prelude.{List, ℕ, ◌<◌, get_or}
use Rattle.std.proofs.Common.{arith}
use Rattle.pair_places.specs.declared.Pair.{Pair}
use Rattle.pair_places.specs.Flat.{Laid, place_count, cell_count, pair_graph}
use Rattle.pair_places.specs.Nodes.{low_inside}
use Rattle.code.specs.Laws.Cells.{inside}
use Rattle.pair_storage.specs.Fields.{Carries}
use Rattle.pair_storage.specs.Entries.{entries_in, node_at, PairOf, carried}
use Rattle.pair_storage.specs.Stores.{mark_of}
use Rattle.pair_heights.specs.Marks.{OnStack}
use Rattle.pair_heights.specs.State.{State}

-- The pair p has two places, and its mark is that of a pair on the stack.
pub record CarriesMet (f xs : List ℕ) (p : Pair) : Type 0 where
  pub low : p.low < place_count f
  pub high : p.high < place_count f
  pub on : OnStack (pair_graph f) (mark_of f xs p)

-- The pair p is node v, and has two places.
pub record CarriesNode (f : List ℕ) (v : ℕ) (p : Pair) : Type 0 where
  pub pair : PairOf f v p
  pub low : p.low < place_count f

-- Where entry i is a node, the link there carries that node's two places.
pub carries_node : (f sk : List ℕ) → Laid f → (i : ℕ) → node_at (entries_in f sk) i < cell_count f → {p : Pair} → Carries (get_or sk i 0) p → CarriesNode f (node_at (entries_in f sk) i) p
carries_node f sk laid i l {p} c =
    let r = carried f sk laid i (omega arith) c in
    record { pair = r; low = low_inside f p.low p.high (rw r.node l) }

-- 02, request 6: "the two places carried are at every step those whose mark is read or set", on the stack.
pub stack_carries : {f xs : List ℕ} (sk : List ℕ) {d : ℕ} → Laid f → State (pair_graph f) xs (entries_in f sk) d → (i : ℕ) → i < d → {p : Pair}
    → Carries (get_or sk i 0) p → CarriesMet f xs p
stack_carries {f} {xs} sk laid s i l c =
    let on = s.stack.on i l in
    let r = carries_node f sk laid i (omega (arith, inside xs (node_at (entries_in f sk) i) on.0, s.marks.size)) c in
    record { low = r.low; high = r.pair.inside; on = rw r.pair.node on }
