-- The slots of a member that does not turn: each leads both places on.
use Rattle.std.proofs.Common.{ControlFlow, Continue, Break}
use mathlib.Core.Path.{◌≡◌, sym, ap, ◌∙◌}
use mathlib.Core.List.{List}
use Prim.Native.Nat.{ℕ, ◌+◌, ◌≤◌}
use native.Mathlib.Omega.{arith}
use lib.ListN.{length}
use Rattle.pair_places.specs.declared.Pair.{Pair}
use Rattle.pair_places.specs.Flat.{arc_from, cell}
use Rattle.pair_places.specs.Nodes.{lower-cell, higher-cell}
use Rattle.pair_places.specs.Opens.{toward, toward_other}
use Rattle.pair_places.specs.Steps.{Arrives}
use Rattle.pair_storage.specs.Entries.{node_at, entries_in}
use Rattle.pair_slots.specs.Ensured.{Straight, Arrived}
use Rattle.pair_slots.specs.Widths.{width}
use Rattle.pair_groups.specs.Ensured.{Expanding, Progressed, went}
use Rattle.pair_groups.specs.Pairs.{pair_slots}
use Rattle.pair_groups.specs.Parts.{goal_again, expanding_next}
use Rattle.pair_groups.specs.Slots.{slots_begin, next_member}
use Rattle.pair_groups.proofs.Laws.Steps.{slot_done}

module _ {f ms q : List ℕ} {tail a b t k c : ℕ} {p : Pair} (x : Expanding f ms q tail a b t k c)
    (number : node_at (entries_in f q) k ≡ cell f p.low p.high)
    (g : Straight f p) where
  slot_leads : {o : Pair} → Arrives f (arc_from f p.low p.high c) o → toward f (node_at (entries_in f q) k) c ≡ cell f o.low o.high
  slot_leads d =
      ap (λ (v : ℕ). toward f v c) number
      ∙ toward_other f (cell f p.low p.high) c g.straight
      ∙ (rw (lower-cell f p.low p.high g.high, higher-cell f p.low p.high g.high) (sym d.node))

  module _ {o : Pair} (d : Arrives f (arc_from f p.low p.high c) o) {ms' q' : List ℕ} {r : ControlFlow ℕ ℕ} where
    pub slot_next : {e : ℕ} → Arrived f ms (entries_in f q) ms' (entries_in f q') a t tail (cell f o.low o.high) r → r ≡ Continue e → length q' ≡ length q
        → Expanding f ms' q' e a b t k (c + 1)
    slot_next h = expanding_next x (slot_done x (slot_leads d) h)

    pub slot_goal : {y t' k' c' : ℕ} → Arrived f ms (entries_in f q) ms' q' a t tail (cell f o.low o.high) r → r ≡ Break y
        → Progressed f ms' q' a b t' k' c' (Break y)
    slot_goal h = goal_again (slot_done x (slot_leads d) h)

  -- After the last slot the member is done.
  pub slots_ended : {end : ℕ} → end ≡ width f (cell f p.low p.high) t → end ≤ c → Progressed f ms (entries_in f q) a b t (k + 1) 0 (Continue tail)
  slots_ended e l =
      let w = ap (λ (v : ℕ). width f v t) number in
      went (slots_begin (next_member x.stands (pair_slots x.laid x.numbered) (omega arith) x.ready.member))
