-- The queue of a search over pairs has at most one entry for the source and one for every pair with the lower place first; and one less where a goal is met, which
-- is never queued. So no message has more symbols than there are such pairs.
use Rattle.std.specs.Prelude.{◌≡◌, Bool, true, false, List, ℕ, ◌+◌, ◌≤◌, ◌<◌, get_or, set}
use Rattle.std.proofs.Common.{sym, ◌∙◌, length-set}
use Rattle.std.proofs.Math.Decide.{ℕ_discrete}
use native.Mathlib.Omega.{arith}
use Rattle.std.proofs.Math.ListN.{length}
use Rattle.code.specs.Laws.Cells.{on_set, inside, total, total-set}
use Rattle.pair_places.specs.Flat.{Laid, place_count, cell_count, pair_count, lower, higher}
use Rattle.pair_places.specs.Opens.{open_graph}
use Rattle.pair_places.specs.Roots.{Numbered}
use Rattle.pair_places.specs.Triangle.{ordered, ordered_one, pairs_most}
use Rattle.pair_groups.specs.Links.{Link, link_node}
use Rattle.pair_groups.specs.Queue.{mark, Queue, Queued, after_source}
use Rattle.pair_groups.specs.Pairs.{link_order}

-- Marks that stand only at pairs with the lower place first are no more than these pairs.
marks_few : (f ms : List ℕ) → length ms ≡ cell_count f → ((v : ℕ) → 1 ≤ get_or ms v 0 → lower f v ≤ higher f v) → total mark ms ≤ pair_count f
unfolding mark cell_count pair_count
marks_few f ms e p = pairs_most (place_count f) mark ms e (λ v. by v (ℕ_discrete (get_or ms v 0) 0))
  where
    by : (v : ℕ) → Dec (get_or ms v 0 ≡ 0) → mark (get_or ms v 0) ≤ ordered (place_count f) v
    by v (yes z) = omega arith
    by v (no n) = omega (arith, ordered_one (place_count f) v (p v (omega arith)))

module _ {f ms q : List ℕ} {tail : ℕ} (laid : Laid f) (n : Numbered f) (s : Queue (open_graph f) ms q tail) where
  -- A marked node stands at an index after the source.
  marked_index : (v : ℕ) → 1 ≤ get_or ms v 0 → (m : Queued q tail v) → 1 ≤ m.index
  marked_index v h m =
      let l = inside ms v h in
      let z = s.size in
      after_source s m.index (let e = m.node in omega arith)

  marked_order : (v : ℕ) → 1 ≤ get_or ms v 0 → lower f v ≤ higher f v
  marked_order v h =
      let m = s.found v h in
      rw m.node at (link_order laid n (s.origin m.index (marked_index v h m) m.below).link)

  pub tail_most : tail ≤ pair_count f + 1
  tail_most = let r = s.room in omega (arith, marks_few f ms s.size marked_order)

  -- A goal is not marked.
  goal_clear : (w : ℕ) → (open_graph f).goal w ≡ true → get_or ms w 0 ≡ 0
  goal_clear w e = go (ℕ_discrete (get_or ms w 0) 0)
    where
      go : Dec (get_or ms w 0 ≡ 0) → get_or ms w 0 ≡ 0
      go (yes z) = z
      go (no x) =
          let h : 1 ≤ get_or ms w 0 = omega arith in
          let m = s.found w h in
          let d : (open_graph f).goal w ≡ false = rw m.node at (s.plain m.index (marked_index w h m) m.below) in
          let y : ◌≡◌ {A = Bool} true false = sym e ∙ d in
          let z : ◌≡◌ {A = ℕ} 0 1 = cc in
          absurd (omega arith)

  pub tail_before_goal : {v w : ℕ} → Link (open_graph f) v w → (open_graph f).goal w ≡ true → tail ≤ pair_count f
  unfolding mark
  tail_before_goal {v} {w} d e =
      let z = s.size in
      let r = s.room in
      let l : w < length ms = let k = link_node d in omega arith in
      omega (
        arith,
        goal_clear w e,
        total-set mark ms w 1 l,
        marks_few f (set ms w 1) (length-set ms w 1 ∙ z) (on_set ms w 1 l (λ u x. 1 ≤ x → lower f u ≤ higher f u)
            (λ h. link_order laid n d) (λ u ne. marked_order u)),
      )
