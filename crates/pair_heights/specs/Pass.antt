-- The next slot of the pair on top leads to a finished pair and is passed: what the function asks and promises, and that it is a transition.
use Rattle.std.specs.Prelude.{◌≡◌, List, ℕ, ◌+◌, ◌-◌, ◌≤◌, ◌<◌, max, get_or, set}
use Rattle.std.proofs.Common.{◌∙◌, arith}
use Rattle.pair_places.specs.declared.Pair.{Pair}
use Rattle.pair_places.specs.Flat.{Laid, pair_graph}
use Rattle.pair_places.specs.Nodes.{cells_most}
use Rattle.pair_storage.specs.Fields.{pair_room, Carries}
use Rattle.pair_storage.specs.Entries.{entries_in, entry_of, node_entry, above_entry, above_at, links}
use Rattle.pair_storage.specs.Marks.{marks}
use Rattle.pair_storage.specs.Stores.{mark_of, Stored}
use Rattle.pair_heights.specs.Stack.{Next}
use Rattle.pair_heights.specs.State.{State, top}
use Rattle.pair_heights.specs.Transitions.{Stepped, pass_edge}
use Rattle.pair_heights.specs.Search.{finished_from, Top, top_numbers, top_cell, top_above}

-- The slot is passed: the height so far becomes the greater of itself and the height k through that slot.
pub record Passed (xs sk : List ℕ) (d k : ℕ) (xs' sk' : List ℕ) : Type 0 where
  pub marks : xs' ≡ set xs (top sk d) (get_or xs (top sk d) 0 + 1)
  pub stack : sk' ≡ set sk (d - 1) (entry_of (max (above_at sk (d - 1)) k) (top sk d))

-- What is stored: the pair on top keeps its two places, and its mark rises.
pub pass_stores : (f w w' : List ℕ) {d a k h m : ℕ} {p : Pair} → Top f (marks f w) (entries_in f w) d → Carries (get_or w (d - 1) 0) p → a ≡ above_at (links w) (d - 1)
    → h ≡ max a k → m ≡ mark_of f (marks f w) p → Stored f w (d - 1) h p (m + 1) w' → Passed (marks f w) (entries_in f w) d k (marks f w') (entries_in f w')
pass_stores f w w' t c before height mark s =
    let e = top_cell f w t c in
    record { marks = s.marks ∙ rw (mark, e); stack = s.entries ∙ rw (height, top_above f w t before, e) }

-- The slot led to w, which is finished.
pub passed : {f xs sk xs' sk' : List ℕ} {d k w : ℕ} → Laid f → State (pair_graph f) xs sk d → 1 ≤ d
    → Next (pair_graph f) (get_or xs (top sk d) 0) (top sk d) w → finished_from ≤ get_or xs w 0 → k ≡ get_or xs w 0 - finished_from + 1 → Passed xs sk d k xs' sk'
    → Stepped (pair_graph f) xs xs' sk' d
passed {xs = xs} {sk = sk} {d = d} {w = w} laid s some next done through p =
    let h : ℕ = max (above_at sk (d - 1)) (get_or xs w 0 - finished_from + 1) in
    let l : top sk d < pair_room = omega (arith, (top_numbers laid s some).node, cells_most laid) in
    rw (p.marks, p.stack, through) (pass_edge s some next done (entry_of h (top sk d)) (node_entry h (top sk d) l) (above_entry h (top sk d) l))
