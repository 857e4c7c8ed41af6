-- A label is stored back to front: its last symbols stand in the list, and the label of the index that is reached comes before them.
use Rattle.std.specs.Prelude.{◌≡◌, refl, ℕ, suc, ◌+◌, ◌-◌, ◌≤◌, ◌<◌, length, get_or, take, drop, set}
use Rattle.std.proofs.Common.{sym, ap, ◌∙◌, arith, take-append-drop, length-take-le, take-suc}
use mathlib.Core.List.{List, [], ◌∷◌, ◌++◌, append_assoc, append-nil, reverse, reverse-cons}
use Rattle.std.proofs.lemmas.List.{set_at}
use Rattle.graph.specs.Graph.{Graph}
use Rattle.pair_storage.specs.Entries.{node_at, above_at}
use Rattle.pair_groups.specs.Labels.{Label, source, grown}
use Rattle.pair_shortest.specs.Depth.{Depth, label_depth, depth_step}

-- The label of `start` has `count` symbols.
pub record Spelled (g : Graph) (q : List ℕ) (start count : ℕ) : Type 0 where
  pub message : List ℕ
  pub label : Label g q start message
  pub long : length message ≡ count

-- The label of `start`, of `count` symbols, stands at the front of p in place of what o has there.
pub record Stored (g : Graph) (q : List ℕ) (start count : ℕ) (o p : List ℕ) : Type 0 where
  pub spelled : Spelled g q start count
  pub list : p ≡ reverse spelled.message ++ drop count o

-- The last symbols of the label of `start` are stored, from `at` on; before them comes the label of `index`. The list was o at first.
pub record Filled (g : Graph) (q : List ℕ) (start count : ℕ) (o : List ℕ) (index at : ℕ) (p : List ℕ) : Type 0 where
  pub spelled : Spelled g q start count
  pub rest : List ℕ
  pub here : Label g q index rest
  pub before : length rest ≡ at
  pub stored : List ℕ
  pub joined : reverse rest ++ stored ≡ reverse spelled.message
  pub list : p ≡ take at o ++ (stored ++ drop count o)
  pub low : index ≤ start
  pub within : at ≤ count
  pub room : count ≤ length o

-- A symbol stored just before those that are.
store_before : (o r : List ℕ) (i x : ℕ) → i < length o → set (take (suc i) o ++ r) i x ≡ take i o ++ (x ∷ r)
store_before o r i x h =
    ap (λ (l : List ℕ). set (l ++ r) i x) (take-suc o i 0 h)
    ∙ ap (λ (l : List ℕ). set l i x) (append_assoc (take i o) (get_or o i 0 ∷ []) r)
    ∙ set_at (take i o) (get_or o i 0) r x i (length-take-le i o (omega arith))

module _ {g : Graph} {q : List ℕ} {start count : ℕ} {o : List ℕ} where
  pub fill_begin : count ≤ length o → Spelled g q start count → Filled g q start count o start count o
  fill_begin h s =
      record {
        spelled = s;
        rest = s.message;
        here = s.label;
        before = s.long;
        stored = [];
        joined = append-nil (reverse s.message);
        list = sym (take-append-drop count o);
        low = omega arith;
        within = omega arith;
        room = h;
      }

  fill_more : {index at f c : ℕ} {m p : List ℕ} (t : Filled g q start count o index at p) → t.rest ≡ c ∷ m → f < index → above_at q index ≡ f + 1
      → g.symbol (node_at q index) ≡ c → Label g q f m
      → Filled g q start count o (above_at q index - 1) (at - 1) (set p (at - 1) (g.symbol (node_at q index)))
  fill_more {index} {at} {f} {c} {m} {p} t e l d s x =
      let z : above_at q index - 1 ≡ f = omega arith in
      let n : length m + 1 ≡ at = let y = t.before in let k = ap length e in omega arith in
      let w = t.within in
      let y : suc (at - 1) ≡ at = omega arith in
      record {
        spelled = t.spelled;
        rest = m;
        here = rw z x;
        before = omega arith;
        stored = c ∷ t.stored;
        joined =
            sym (append_assoc (reverse m) (c ∷ []) t.stored)
            ∙ ap (λ (r : List ℕ). r ++ t.stored) (sym (reverse-cons c m))
            ∙ ap (λ (r : List ℕ). reverse r ++ t.stored) (sym e)
            ∙ t.joined;
        list =
            rw (t.list, s)
            (rw y at (store_before o (t.stored ++ drop count o) (at - 1) c (let k = t.room in omega arith)));
        low = let k = t.low in omega arith;
        within = omega arith;
        room = t.room;
      }

  module _ {index at : ℕ} {p : List ℕ} (t : Filled g q start count o index at p) where
    fill_by : {r : List ℕ} → t.rest ≡ r → Label g q index r → 0 < index
        → Filled g q start count o (above_at q index - 1) (at - 1) (set p (at - 1) (g.symbol (node_at q index)))
    fill_by e (source z) l = absurd (omega arith)
    fill_by e (grown h d s x) l = fill_more t e h d s x

    fill_depth : Depth q index at
    fill_depth = rw t.before at (label_depth t.here)

    pub fill_some : 0 < index → 1 ≤ at
    fill_some l = let s = (depth_step fill_depth l).count in omega arith

    -- `from` of an index that is not the source.
    module _ {r : ℕ} (e : r ≡ above_at q index) (l : 0 < index) where
      pub fill_from : 1 ≤ r
      fill_from = let h = (depth_step fill_depth l).some in omega arith

      pub fill_falls : r - 1 < index
      fill_falls = let h = (depth_step fill_depth l).falls in omega arith

      -- One symbol more is stored.
      pub fill_next : {x : ℕ} → x ≡ g.symbol (node_at q index) → Filled g q start count o (r - 1) (at - 1) (set p (at - 1) x)
      fill_next d = rw (e, d) (fill_by refl t.here l)

    fill_all : {r : List ℕ} → t.rest ≡ r → Label g q index r → index ≤ 0 → p ≡ reverse t.spelled.message ++ drop count o
    fill_all e (source z) l =
        let a : at ≡ 0 = let y = t.before in let k = ap length e in omega arith in
        let b : t.stored ≡ reverse t.spelled.message = ap (λ (r : List ℕ). reverse r ++ t.stored) (sym e) ∙ t.joined in
        t.list ∙ rw (a, b)
    fill_all e (grown h d s x) l = absurd (omega arith)

    -- At the source the whole label is stored.
    pub fill_end : index ≤ 0 → Stored g q start count o p
    fill_end l = record { spelled = t.spelled; list = fill_all refl t.here l }
