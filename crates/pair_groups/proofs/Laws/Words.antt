-- The slots of a member that turns, word by word: those of a word that cannot come by the symbol are passed over, the others lead to the pairs of that word
-- and each word in order behind it.
use Rattle.std.proofs.Common.{ControlFlow, Continue, Break}
use Rattle.std.specs.Prelude.{if◌then◌else◌}
use mathlib.Core.Path.{◌≡◌, refl, sym, ap, ◌∙◌}
use mathlib.Core.Bool.{Bool, true, false, not, true≢false, and-eq-true_iff}
use mathlib.Core.List.{List}
use Prim.Native.Nat.{ℕ, ◌+◌, ◌*◌, ◌≤◌, ◌<◌}
use native.Mathlib.Decide.{dec_lt, dec_le}
use native.Mathlib.Omega.{arith}
use lib.Dec.{eqb}
use lib.ListN.{length}
use borrow.Author.Tests.{eq-eqb, not-true, not-false}
use Rattle.code.specs.Definitions.Sheets.{limits}
use Rattle.pair_places.specs.Flat.{symbol_at, first_at, may_come, opens_at, word_count, cell_count, higher}
use Rattle.pair_places.specs.Nodes.{node_of}
use Rattle.pair_places.specs.Opens.{left_word, right_word, in_order, pair_behind, toward, open_graph, behind_tests, behind_words, in_order_lem, in_order_least, toward-turning}
use Rattle.pair_storage.specs.Entries.{node_at, entries_in}
use Rattle.pair_slots.specs.Ensured.{Turned, Arrived}
use Rattle.pair_slots.specs.Widths.{width-turning}
use Rattle.pair_slots.specs.Words.{leads_behind, least_behind}
use Rattle.pair_groups.specs.Ensured.{Stands, Expanding, Progressed, went}
use Rattle.pair_groups.specs.Pairs.{arrival_symbol, pair_slots}
use Rattle.pair_groups.specs.Parts.{goal_again, expanding_next}
use Rattle.pair_groups.specs.Queue.{Met}
use Rattle.pair_groups.specs.Slots.{slots_begin, next_member}
use Rattle.pair_groups.proofs.Laws.Steps.{slot_done}

module _ (f : List ℕ) where
  -- What is known of a word that leads.
  pub leads_comes : (t y x : ℕ) {r : Bool} → r ≡ leads_behind f t y x → not r ≡ false → may_come f x y ≡ true
  leads_comes t y x {r} d e = ((and-eq-true_iff (eqb (symbol_at f (first_at f x)) t) (may_come f x y)).0 (sym d ∙ not-false r e)).1

  -- A slot of a word leads to pairs of its first symbol.
  word_symbol : (y j : ℕ) → pair_behind f y j < cell_count f → symbol_at f (first_at f (left_word j)) ≡ symbol_at f (higher f (pair_behind f y j))
  word_symbol y j h =
      let c = behind_words f y j h in
      (arrival_symbol (node_of {f = f} (first_at f (left_word j)) (first_at f (right_word j)) c h) (dec_le (first_at f (left_word j)) (first_at f (right_word j)))).0

  word_leads : (t y j : ℕ) → pair_behind f y j < cell_count f → symbol_at f (higher f (pair_behind f y j)) ≡ t → leads_behind f t y (left_word j) ≡ true
  word_leads t y j h e = rw (eq-eqb _ _ (word_symbol y j h ∙ e)) (behind_tests f y j h).left

  -- Words in order from the least one on.
  pub words_ordered : (x : ℕ) {z : ℕ} → least_behind f x ≤ z → in_order f x z ≡ true
  words_ordered x {z} l = by (opens_at f) refl l
    where
      by : (o : Bool) → opens_at f ≡ o → (if o then x else x + 1) ≤ z → in_order f x z ≡ true
      by true o l = in_order_lem f x z (omega arith) (λ e. o)
      by false o l = in_order_lem f x z (omega arith) (λ e. absurd (omega arith))

  toward_behind : {v y : ℕ} → Turned f v y → (j : ℕ) → toward f v j ≡ pair_behind f y j
  toward_behind {v} u j = let l = u.turns in let e = u.behind in toward-turning f v j (omega arith) ∙ ap (λ (z : ℕ). pair_behind f z j) (sym e)

module _ {f ms q : List ℕ} {tail a b t k : ℕ} (y : ℕ) (u : Turned f (node_at q k) y) where
  -- Slots from c to d - 1 that lead to no pair of symbol t are done.
  pass_over : {c d : ℕ} → Stands f ms q tail a b t k c
      → ((j : ℕ) → c ≤ j → j < d → pair_behind f y j < cell_count f → symbol_at f (higher f (pair_behind f y j)) ≡ t → ⊥) → Stands f ms q tail a b t k d
  pass_over {c} {d} s none = record { stage = s.stage; now = λ j l h i. by j l h i (dec_lt j c) }
    where
      by : (j : ℕ) → j < d → toward f (node_at q k) j < cell_count f → (open_graph f).symbol (toward f (node_at q k) j) ≡ t → Dec (j < c)
          → Met q tail k (toward f (node_at q k) j)
      by j l h i (yes m) = s.now j m h i
      by j l h i (no m) = absurd (none j (omega arith) l (rw (toward_behind f u j) at h) (rw (toward_behind f u j) at i))

module _ {f ms q : List ℕ} {tail a b t k : ℕ} (y : ℕ) (u : Turned f (node_at (entries_in f q) k) y) where
  -- A word that does not lead by t.
  pub word_over : (x : ℕ) {r : Bool} → Expanding f ms q tail a b t k (x * limits.words) → r ≡ leads_behind f t y x → not r ≡ true
      → Progressed f ms (entries_in f q) a b t k ((x + 1) * limits.words) (Continue tail)
  word_over x {r} s d e =
      went
      (pass_over y u s.stands (λ j l m h i. let z : left_word j ≡ x = omega arith in true≢false (sym (word_leads f t y j h i) ∙ rw z (sym d ∙ not-true r e))))

  -- The words before the least one in order.
  pub word_begun : (x : ℕ) {z : ℕ} → Expanding f ms q tail a b t k (x * limits.words) → z ≡ least_behind f x → z ≤ limits.words → Expanding f ms q tail a b t k (x * limits.words + z)
  word_begun x {z} s e n =
      record {
        laid = s.laid;
        numbered = s.numbered;
        stands =
            pass_over y u s.stands
            (λ j l m h i.
            let w : left_word j ≡ x = omega arith in
            let o : least_behind f x ≤ right_word j = rw w at (in_order_least f (left_word j) (right_word j) (behind_tests f y j h).order) in
            omega arith);
        ready = s.ready;
      }

  -- After the last word.
  pub word_ended : (x : ℕ) {z n : ℕ} → Expanding f ms q tail a b t k (x * limits.words + z) → n ≡ word_count f → n ≤ z
      → Progressed f ms (entries_in f q) a b t k ((x + 1) * limits.words) (Continue tail)
  word_ended x {z} {n} s e l = went (pass_over y u s.stands (λ j m o h i. let g = (behind_tests f y j h).known in omega arith))

  -- After the pair of words x and z was met.
  module _ (x z : ℕ) {ms' q' : List ℕ} {p : ControlFlow ℕ ℕ} (s : Expanding f ms q tail a b t k (x * limits.words + z)) where
    pub word_next : {e : ℕ} → Arrived f ms (entries_in f q) ms' (entries_in f q') a t tail (pair_behind f y (x * limits.words + z)) p → p ≡ Continue e → length q' ≡ length q
        → Expanding f ms' q' e a b t k (x * limits.words + (z + 1))
    word_next m d l =
        let w : x * limits.words + z + 1 ≡ x * limits.words + (z + 1) = omega arith in
        rw w at (expanding_next s (slot_done s (toward_behind f u (x * limits.words + z)) m) d l)

    pub word_goal : {g t' k' c' : ℕ} → Arrived f ms (entries_in f q) ms' q' a t tail (pair_behind f y (x * limits.words + z)) p → p ≡ Break g
        → Progressed f ms' q' a b t' k' c' (Break g)
    word_goal m = goal_again (slot_done s (toward_behind f u (x * limits.words + z)) m)

  -- After the last word the member is done.
  pub words_ended : (x : ℕ) {n : ℕ} → Expanding f ms q tail a b t k (x * limits.words) → n ≡ word_count f → n ≤ x → Progressed f ms (entries_in f q) a b t (k + 1) 0 (Continue tail)
  words_ended x s e l =
      let w = width-turning f (node_at (entries_in f q) k) t (let g = u.turns in let h = u.behind in omega arith) in
      went (slots_begin (next_member s.stands (pair_slots s.laid s.numbered) (omega arith) s.ready.member))
