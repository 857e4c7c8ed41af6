-- The symbols that lead no member of a group on are passed over: by such a symbol nothing comes next.
use Rattle.std.specs.Prelude.{◌≡◌, Option, Some, None, is_some, Bool, false, List, ℕ, ◌+◌, ◌≤◌, ◌<◌, get_or}
use Rattle.std.proofs.Common.{ControlFlow, Continue, sym, ap, ◌∙◌, arith, true≢false, below_more}
use Rattle.std.proofs.Math.Decide.{dec_lt}
use Rattle.graph.specs.Graph.{Graph}
use Rattle.pair_places.specs.declared.Pair.{Pair}
use Rattle.pair_places.specs.Flat.{Laid, place_count, cell}
use Rattle.pair_places.specs.Opens.{straight_on, turning}
use Rattle.pair_places.specs.Roots.{Numbered}
use Rattle.pair_storage.specs.Entries.{node_at, entries_in}
use Rattle.pair_storage.specs.Fields.{Carries}
use Rattle.pair_slots.specs.Ensured.{TurnedBy}
use Rattle.pair_slots.specs.Leaves.{goes_straight, width_none}
use Rattle.pair_slots.specs.Widths.{inner_of, width}
use Rattle.pair_groups.specs.Carrying.{known_pair}
use Rattle.pair_groups.specs.Ensured.{Known, Stands, Progressed}
use Rattle.pair_groups.specs.Links.{Link}
use Rattle.pair_groups.specs.Pairs.{pair_slots}
use Rattle.pair_groups.specs.Parts.{was_tail}
use Rattle.pair_groups.specs.Queue.{Met, Stage}
use Rattle.pair_groups.specs.Slots.{Slot, Slots, slots_begin}

-- No symbol from t to u - 1 leads number v on.
pub record NotLed (f : List ℕ) (v t u : ℕ) : Type 0 where
  pub order : t ≤ u
  pub none : (s : ℕ) → t ≤ s → s < u → width f v s ≡ 0

-- No symbol from t to u - 1 leads a member of the group a to b - 1 on.
pub record NoneLed (f q : List ℕ) (a b t u : ℕ) : Type 0 where
  pub order : t ≤ u
  pub none : (i : ℕ) → i < b → a ≤ i → (s : ℕ) → t ≤ s → s < u → width f (node_at q i) s ≡ 0

-- A number of which `turning` says nothing goes straight on.
pub straight_none : (f : List ℕ) (v : ℕ) (r : Option ℕ) {b : Bool} → TurnedBy f v r → b ≡ is_some r → b ≡ false → turning f v ≡ straight_on
straight_none f v None t e z = t
straight_none f v (Some y) t e z = absurd (true≢false (sym e ∙ z))

-- A symbol other than that after the inner place p leads no pair on.
module _ {f : List ℕ} (laid : Laid f) (pair : Pair) {p t u : ℕ} (z : turning f (cell f pair.low pair.high) ≡ straight_on)
    (h : pair.high < place_count f) (e : p ≡ inner_of f pair.low pair.high) (o : t ≤ u) where
  not_led : ((s : ℕ) → t ≤ s → s < u → get_or f (p + 1) 0 ≡ s → ⊥) → NotLed f (cell f pair.low pair.high) t u
  not_led n = record { order = o; none = λ s a b. sym (width_none laid pair s (goes_straight laid pair z h) e (n s a b)) }

  pub not_led_above : u ≤ get_or f (p + 1) 0 → NotLed f (cell f pair.low pair.high) t u
  not_led_above d = not_led (λ s a b z. omega arith)

  pub not_led_below : get_or f (p + 1) 0 < t → NotLed f (cell f pair.low pair.high) t u
  not_led_below d = not_led (λ s a b z. omega arith)

module _ {f q : List ℕ} {a t : ℕ} where
  pub none_led_begin : {u : ℕ} → t ≤ u → NoneLed f q a a t u
  none_led_begin o = record { order = o; none = λ i l h. absurd (omega arith) }

  pub none_led_end : {k b u : ℕ} → NoneLed f q a k t u → b ≤ k → NoneLed f q a b t u
  none_led_end r l = record { order = r.order; none = λ i h. r.none i (omega arith) }

-- One member more, by the two places that its link carries.
pub none_led_more : {f : List ℕ} (q : List ℕ) {a b t k u n : ℕ} {p : Pair} → Laid f → Known f (entries_in f q) b → k < b → NoneLed f (entries_in f q) a k t u
    → Carries (get_or q k 0) p → NotLed f (cell f p.low p.high) t n → n ≤ u → NoneLed f (entries_in f q) a (k + 1) t n
none_led_more {f} q {a} {b} {t} {k} {u} {n} laid known m r c x l =
    let d = known_pair q laid known m c in
    record {
      order = x.order;
      none =
          below_more (λ i. a ≤ i → (s : ℕ) → t ≤ s → s < n → width f (node_at (entries_in f q) i) s ≡ 0) k (λ i h o s e z. r.none i h o s e (omega arith))
          (λ o s e z. ap (λ (v : ℕ). width f v s) (sym d.node) ∙ x.none s e z);
    }

-- What comes next by the symbols below u was met, if none from t to u - 1 leads a member on.
module _ {g : Graph} {to width : ℕ → ℕ → ℕ} {ms q : List ℕ} {tail a b t u : ℕ} (z : Slots g to width) (s : Stage g ms q tail a b t a)
    (none : (i : ℕ) → i < b → a ≤ i → (x : ℕ) → t ≤ x → x < u → width (node_at q i) x ≡ 0) where
  no_slot : (i w : ℕ) → i < b → a ≤ i → t ≤ g.symbol w → g.symbol w < u → Slot to (width (node_at q i) (g.symbol w)) (node_at q i) w → ⊥
  no_slot i w l h o c y = let e = none i l h (g.symbol w) o c in let d = y.below in omega arith

  met_before : (i w : ℕ) → i < b → g.symbol w < u → Link g (node_at q i) w → Dec (i < a) → Dec (g.symbol w < t) → Met q tail i w
  met_before i w l c d (yes h) o = s.done i w h d
  met_before i w l c d (no h) (yes o) = s.part i w l o d
  met_before i w l c d (no h) (no o) = absurd (no_slot i w l (omega arith) (omega arith) c (z.complete (node_at q i) w d))

  pass_symbols : t ≤ u → u ≤ 16 → Stage g ms q tail a b u a
  pass_symbols o h =
      record {
        queue = s.queue;
        group = s.group;
        from = s.from;
        to = s.to;
        high = h;
        begins = s.begins;
        near = λ i l. let n = s.near i l in omega arith;
        done = s.done;
        part = λ i w l c d. met_before i w l c d (dec_lt i a) (dec_lt (g.symbol w) t);
        here = λ i w l c. s.done i w l;
      }

-- The symbols that lead no member on are done.
pub symbols_passed : {f ms q : List ℕ} {tail a b t u : ℕ} → Laid f → Numbered f → Stands f ms q tail a b t a 0 → NoneLed f q a b t u → u ≤ 16
    → Stands f ms q tail a b u a 0
symbols_passed laid n s r h = slots_begin (pass_symbols (pair_slots laid n) s.stage r.none r.order h)

-- After a symbol, the next one that may lead a member on.
pub symbol_next : {f ms q : List ℕ} {a b t u e : ℕ} {r : ControlFlow ℕ ℕ} → Laid f → Numbered f → Progressed f ms q a b t a 0 r → r ≡ Continue e → NoneLed f q a b t u
    → u ≤ 16 → Stands f ms q e a b u a 0
symbol_next laid n h d = symbols_passed laid n (was_tail h d)
