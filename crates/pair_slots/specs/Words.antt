-- Words behind a pair that turns: whether one leads on by a symbol, which is the least in order behind it, and what comes of meeting two.
use Rattle.std.specs.Prelude.{◌≡◌, refl, Bool, true, false, ◌&&◌, List, ℕ, ◌+◌, ◌*◌, ◌<◌, eqb, if◌then◌else◌}
use Rattle.std.proofs.Common.{ControlFlow, Continue, sym, ◌∙◌, true≢false, arith, eq-eqb, ne_eqb}
use Rattle.code.specs.Definitions.Sheets.{limits}
use Rattle.pair_places.specs.declared.Pair.{Pair}
use Rattle.pair_places.specs.Flat.{Laid, symbol_at, first_at, may_come, opens_at, word_count, cell}
use Rattle.pair_places.specs.Opens.{left_word, right_word, in_order, pair_behind, Behind, behind_tests, behind_both, in_order_le}
use Rattle.pair_places.specs.Steps.{Arrives, start_node}
use Rattle.pair_slots.specs.Ensured.{Arrived, known as old}

module _ (f : List ℕ) where
  -- Word x begins with the symbol t and may come behind y.
  abbrev pub leads_behind : ℕ → ℕ → ℕ → Bool
  leads_behind t y x = eqb (symbol_at f (first_at f x)) t && may_come f x y

  -- The least word in order behind x: x itself where openings matter, else the next one.
  abbrev pub least_behind : ℕ → ℕ
  least_behind x = if opens_at f then x else x + 1

  -- What `leads` returns.
  pub leads_by : (t y x : ℕ) {s : ℕ} {b : Bool} → s ≡ symbol_at f (first_at f x) → s ≡ t → b ≡ may_come f x y → b ≡ leads_behind t y x
  leads_by t y x d e h = rw (eq-eqb _ _ (sym d ∙ e)) h

  pub leads_other : (t y x : ℕ) {s : ℕ} → s ≡ symbol_at f (first_at f x) → (s ≡ t → ⊥) → false ≡ leads_behind t y x
  leads_other t y x d e = rw (ne_eqb _ _ (λ z. e (d ∙ z)))

  -- What `least_in_order` returns.
  pub least_same : (x : ℕ) {b : Bool} → b ≡ opens_at f → b ≡ true → x ≡ least_behind x
  least_same x d e = rw (sym d ∙ e)

  pub least_next : (x : ℕ) {b : Bool} → b ≡ opens_at f → b ≡ false → x + 1 ≡ least_behind x
  least_next x d e = rw (sym d ∙ e)

  -- What is known of two words in order.
  pub left_known : Laid f → (x : ℕ) {z : ℕ} → in_order f x z ≡ true → z < word_count f → x < limits.words
  left_known laid x {z} o l = let n = laid.words in let h = in_order_le f x z o in omega arith

  pub right_known : Laid f → {z : ℕ} → z < word_count f → z < limits.words
  right_known laid l = let n = laid.words in omega arith

-- What `meet_words` returns.
at_words : {f : List ℕ} → Laid f → (x z : ℕ) → z < word_count f → (left_word (x * limits.words + z) ≡ x) × (right_word (x * limits.words + z) ≡ z)
at_words laid x z k = let n = laid.words in (omega arith, omega arith)

module _ {f ms q : List ℕ} {a t tail : ℕ} (laid : Laid f) (y x z : ℕ) (known : z < word_count f) where
  pub meets_pair : {b : Bool} {r : Pair} {ms' q' : List ℕ} {p : ControlFlow ℕ ℕ} → may_come f x y ≡ true → in_order f x z ≡ true → b ≡ may_come f z y → b ≡ true
      → Arrives f (start_node f x z) r → Arrived f ms q ms' q' a t tail (cell f r.low r.high) p → Arrived f ms q ms' q' a t tail (pair_behind f y (x * limits.words + z)) p
  meets_pair left order d e arrives h =
      let w = at_words laid x z known in
      let both : Behind f y (x * limits.words + z) = record { order = rw (w.0, w.1) order; known = rw w.1 known; left = rw w.0 left; right = rw w.1 (sym d ∙ e) } in
      rw (behind_both f y (x * limits.words + z) both, w.0, w.1, ← arrives.node) h

  pub meets_none : {b : Bool} → b ≡ may_come f z y → b ≡ false → Arrived f ms q ms q a t tail (pair_behind f y (x * limits.words + z)) (Continue tail)
  meets_none d e = old (λ l i. absurd (true≢false (sym (behind_tests f y (x * limits.words + z) l).right ∙ rw (at_words laid x z known).1 (sym d ∙ e)))) refl refl
