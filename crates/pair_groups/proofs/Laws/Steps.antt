-- One slot of a member, way by way: it leads to nothing new, to a goal, or to a node that is then queued.
use Rattle.std.proofs.Common.{ControlFlow}
use mathlib.Core.Path.{◌≡◌, ap, ◌∙◌}
use mathlib.Core.List.{List}
use Prim.Native.Nat.{ℕ, ◌+◌, ◌<◌}
use native.Mathlib.Omega.{arith}
use lib.ListN.{get_or, set}
use Rattle.pair_places.specs.Flat.{cell_count}
use Rattle.pair_places.specs.Nodes.{cells_most}
use Rattle.pair_places.specs.Opens.{toward, open_graph}
use Rattle.pair_storage.specs.Entries.{entry_of, node_in, node_at, node_entry, above_entry, entries_in, length_entries_in}
use Rattle.pair_slots.specs.Ensured.{Turned, IsFresh, IsGoal, Arrived, known, final, queued}
use Rattle.pair_groups.specs.Ensured.{Stands, Expanding, GoalNext, Progressed, met, went}
use Rattle.pair_groups.proofs.Laws.Frontier.{first_goal}
use Rattle.pair_groups.specs.Labels.{label_of}
use Rattle.pair_groups.specs.Links.{Link}
use Rattle.pair_groups.specs.Pairs.{pair_slots}
use Rattle.pair_groups.specs.Parts.{entries_known}
use Rattle.pair_groups.specs.Push.{entry_old}
use Rattle.pair_groups.specs.Room.{tail_before_goal}
use Rattle.pair_groups.specs.Slots.{pass, met_marked, push}

-- A slot of member k that leads to number v is done after v was met.
module _ {f ms q : List ℕ} {tail a b t k c v : ℕ} (x : Expanding f ms q tail a b t k c) (leads : toward f (node_at (entries_in f q) k) c ≡ v) where
  -- A slot that leads to a node leads along a link.
  link : v < cell_count f → Link (open_graph f) (node_at (entries_in f q) k) v
  link l = rw leads at ((pair_slots x.laid x.numbered).sound (node_at (entries_in f q) k) c x.ready.node (rw leads l))

  -- A goal: the first that is met.
  goal_next : IsGoal f v t → GoalNext f (entries_in f q) a t
  goal_next i =
      let l = link i.node in
      let s = x.stands.stage in
      let z = s.group.some in
      let h = s.group.ends in
      record {
        small = let m = tail_before_goal x.laid x.numbered s.queue l i.goal in omega arith;
        known = entries_known s.queue (omega arith);
        low = x.ready.low;
        labelled = label_of s.queue a (omega arith);
        least = first_goal s v x.ready.member l i.symbol i.goal;
      }

  pushed : IsFresh f ms v t → Stands f (set ms v 1) (set (entries_in f q) tail (entry_of (a + 1) v)) (tail + 1) a b t k (c + 1)
  pushed m =
      let l = m.node in
      let u = cells_most x.laid in
      let r = x.ready in
      push x.stands v (entry_of (a + 1) v) (let g = r.few in let h = r.wide in omega (arith, length_entries_in f q)) r.member
      (link l) m.symbol m.plain m.clear
      (node_entry (a + 1) v (omega arith)) (above_entry (a + 1) v (omega arith)) leads

  pub slot_done : {ms' q' : List ℕ} {p : ControlFlow ℕ ℕ} → Arrived f ms (entries_in f q) ms' q' a t tail v p → Progressed f ms' q' a b t k (c + 1) p
  slot_done (known h d e) = rw (d, e) (went (pass x.stands (rw leads (λ l z. met_marked x.stands x.ready.low v (h l z)))))
  slot_done (final h d e) = rw (d, e) (met (goal_next h))
  slot_done (queued h d e) = rw (d, e) (went (pushed h))

-- The member's number stays.
module _ {f ms q ms' q' : List ℕ} {tail a b t k c v : ℕ} {p : ControlFlow ℕ ℕ} (x : Expanding f ms q tail a b t k c)
    (h : Arrived f ms (entries_in f q) ms' q' a t tail v p) where
  member_kept : node_at q' k ≡ node_at (entries_in f q) k
  member_kept = ap node_in (by h)
    where
      by : {p : ControlFlow ℕ ℕ} → Arrived f ms (entries_in f q) ms' q' a t tail v p → get_or q' k 0 ≡ get_or (entries_in f q) k 0
      by (known h d e) = ap (λ (l : List ℕ). get_or l k 0) e
      by (final h d e) = ap (λ (l : List ℕ). get_or l k 0) e
      by (queued h d e) =
          ap (λ (l : List ℕ). get_or l k 0) e ∙ entry_old (entries_in f q) tail (entry_of (a + 1) v) k (let i = x.ready.member in let j = x.ready.ends in omega arith)

  pub same_number : {w : ℕ} → node_at (entries_in f q) k ≡ w → node_at q' k ≡ w
  same_number e = member_kept ∙ e

  pub still_turned : {y : ℕ} → Turned f (node_at (entries_in f q) k) y → Turned f (node_at q' k) y
  still_turned u = rw member_kept u
