-- What the functions on one pair return, way by way.
use Rattle.std.specs.Prelude.{◌≡◌, Bool, true, false, List, ℕ, ◌+◌, ◌*◌, ◌≤◌, ◌<◌, get_or}
use Rattle.std.proofs.Common.{sym, ap, ◌∙◌, arith}
use Rattle.std.proofs.Math.Decide.{dec_lt}
use borrow.Author.Tests.{eq-eqb, ne_eqb}
use Rattle.pair_places.specs.declared.Pair.{Pair}
use Rattle.pair_places.specs.Flat.{Laid, symbol_at, owner_at, end_at, opens_at, at_start, slots_of, place_count, cell_count, cell, higher}
use Rattle.pair_places.specs.Nodes.{cell_inside, cell_outside, lower-cell, higher-cell}
use Rattle.pair_places.specs.Opens.{straight_on, turning, open_graph, apart_ends, turning_source, turning_end, turning_inside, turning_apart, turning_closed}
use Rattle.pair_storage.specs.Entries.{PairOf, node_at, above_at, links, entries_in, above_entries_in, carried}
use Rattle.pair_storage.specs.Fields.{Carries}
use Rattle.pair_storage.specs.Stores.{mark_of}
use Rattle.pair_slots.specs.declared.Arrival.TheVariants.{Passed, Fresh, Goal}
use Rattle.pair_slots.specs.Ensured.{key_of, Straight, Turned, Seen, passed, fresh, goal}
use Rattle.pair_slots.specs.Widths.{inner_of, width, width_on, width_off}

module _ (f : List ℕ) where
  -- The symbol of a number is that of its higher place.
  pub places_symbol : {v : ℕ} {p : Pair} → PairOf f v p → symbol_at f p.high ≡ symbol_at f (higher f v)
  places_symbol {v} {p} r = ap (symbol_at f) (sym (higher-cell f p.low p.high r.inside) ∙ ap (higher f) r.node)

-- What `key` returns: the symbol is that of the entry's number.
module _ {f : List ℕ} (q : List ℕ) (laid : Laid f) (i : ℕ) {p : Pair} (n : node_at (entries_in f q) i ≤ cell_count f) (c : Carries (get_or q i 0) p) where
  pub high_carried : p.high < place_count f
  high_carried = (carried f q laid i n c).inside

  pub is_key : {a s : ℕ} → a ≡ above_at (links q) i → s ≡ symbol_at f p.high → a * 16 + s ≡ key_of f (get_or (entries_in f q) i 0)
  is_key d e = omega (arith, above_entries_in f q laid i, places_symbol f (carried f q laid i n c))

module _ {f : List ℕ} (laid : Laid f) where
  -- What `turning` returns. The number n of places is read from the list.
  module _ (low high : ℕ) {n : ℕ} (e : n ≡ place_count f) where
    pub turns_source : n ≤ low → Turned f (cell f low high) at_start
    turns_source l = record { behind = sym (turning_source f (cell f low high) (cell_outside f low high (omega arith))); turns = omega arith }

    module _ (l : low < n) (h : high < place_count f) where
      cell_known : cell f low high < cell_count f
      cell_known = cell_inside f low high h (omega arith)

      pub turns_end : {b o : Bool} {r : ℕ} → low ≡ high → b ≡ end_at f low → b ≡ true → o ≡ opens_at f → o ≡ true → r ≡ owner_at f low
          → Turned f (cell f low high) r
      turns_end z a c u v d =
          let x = lower-cell f low high h in
          record {
            behind = d ∙ sym (turning_end f (cell f low high) cell_known (x ∙ z ∙ sym (higher-cell f low high h)) (ap (end_at f) x ∙ sym a ∙ c) (sym u ∙ v) ∙ ap (owner_at f) x);
            turns = let o = laid.owners low (omega arith) in omega arith;
          }

      pub turns_closed : {o : Bool} → o ≡ opens_at f → o ≡ false → turning f (cell f low high) ≡ straight_on
      turns_closed u v = turning_closed f (cell f low high) cell_known (sym u ∙ v)

      pub turns_inside : {b : Bool} → b ≡ end_at f low → b ≡ false → turning f (cell f low high) ≡ straight_on
      turns_inside a c = turning_inside f (cell f low high) cell_known (ap (end_at f) (lower-cell f low high h) ∙ sym a ∙ c)

      pub turns_apart : (low ≡ high → ⊥) → turning f (cell f low high) ≡ straight_on
      turns_apart d = turning_apart f (cell f low high) cell_known (λ z. d (sym (lower-cell f low high h) ∙ z ∙ higher-cell f low high h))

  -- A number that does not turn is a pair.
  pub low_known : (low high : ℕ) → turning f (cell f low high) ≡ straight_on → low < place_count f
  low_known low high e = go (dec_lt low (place_count f))
    where
      go : Dec (low < place_count f) → low < place_count f
      go (yes h) = h
      go (no h) = absurd (omega (arith, turning_source f (cell f low high) (cell_outside f low high (omega arith))))

  pub goes_straight : (pair : Pair) → turning f (cell f pair.low pair.high) ≡ straight_on → pair.high < place_count f → Straight f pair
  goes_straight pair e h = record { low = low_known pair.low pair.high e; high = h; straight = e }

  -- A number that turns, by its places.
  pub goes_behind : (pair : Pair) {v y : ℕ} → PairOf f v pair → Turned f (cell f pair.low pair.high) y → Turned f v y
  goes_behind pair u t = record { behind = t.behind ∙ ap (turning f) u.node; turns = t.turns }

  -- What `inner` returns, by whether the lower place is an end.
  pub inner_end : (p q : ℕ) {b : Bool} → b ≡ end_at f p → b ≡ true → q ≡ inner_of f p q
  inner_end p q e d = rw (← e, d)

  pub inner_inside : (p q : ℕ) {b : Bool} → b ≡ end_at f p → b ≡ false → p ≡ inner_of f p q
  inner_inside p q e d = rw (← e, d)

  -- What `two_ends` returns.
  pub ends_same : (low high : ℕ) → low < place_count f → high < place_count f → low ≡ high → false ≡ (open_graph f).goal (cell f low high)
  unfolding apart_ends
  ends_same low high l h e = rw (lower-cell f low high h, higher-cell f low high h, eq-eqb _ _ e)

  pub ends_both : (low high : ℕ) {a b : Bool} → low < place_count f → high < place_count f → (low ≡ high → ⊥) → a ≡ end_at f low → a ≡ true → b ≡ end_at f high
      → b ≡ (open_graph f).goal (cell f low high)
  unfolding apart_ends
  ends_both low high l h n e t d = rw (lower-cell f low high h, higher-cell f low high h, ne_eqb _ _ n, ← e, t) d

  pub ends_inside : (low high : ℕ) {a : Bool} → low < place_count f → high < place_count f → (low ≡ high → ⊥) → a ≡ end_at f low → a ≡ false
      → false ≡ (open_graph f).goal (cell f low high)
  unfolding apart_ends
  ends_inside low high l h n e t = rw (lower-cell f low high h, higher-cell f low high h, ne_eqb _ _ n, ← e, t)

  -- What `width` returns: for a symbol that leads on, and for one that does not.
  pub width_leads : (pair : Pair) (t : ℕ) {n p : ℕ} → Straight f pair → p ≡ inner_of f pair.low pair.high → get_or f (p + 1) 0 ≡ t
      → n ≡ slots_of f pair.low pair.high → n ≡ width f (cell f pair.low pair.high) t
  width_leads pair t g e d z =
      let a = lower-cell f pair.low pair.high g.high in
      let b = higher-cell f pair.low pair.high g.high in
      rw (width_on f (cell f pair.low pair.high) t g.straight (rw (a, b, ← e) (eq-eqb _ _ d)), a, b) z

  pub width_none : (pair : Pair) (t : ℕ) {p : ℕ} → Straight f pair → p ≡ inner_of f pair.low pair.high → (get_or f (p + 1) 0 ≡ t → ⊥)
      → 0 ≡ width f (cell f pair.low pair.high) t
  width_none pair t g e d =
      let a = lower-cell f pair.low pair.high g.high in
      let b = higher-cell f pair.low pair.high g.high in
      sym (width_off f (cell f pair.low pair.high) t g.straight (rw (a, b, ← e) (ne_eqb _ _ d)))

  -- What `look` returns, from its first way out to its last.
  module _ {ms : List ℕ} (pair : Pair) {t : ℕ} where
    pub seen_nowhere : {n : ℕ} → n ≡ place_count f → n ≤ pair.low → Seen f ms (cell f pair.low pair.high) t Passed
    seen_nowhere c l = passed (λ h. absurd (omega (arith, cell_outside f pair.low pair.high (omega arith))))

    pub seen_other : {s : ℕ} → pair.high < place_count f → s ≡ symbol_at f pair.high → (s ≡ t → ⊥) → Seen f ms (cell f pair.low pair.high) t Passed
    seen_other h e d = passed (λ k z. absurd (d (e ∙ rw (higher-cell f pair.low pair.high h) at z)))

    pub seen_marked : {m : ℕ} → m ≡ mark_of f ms pair → (m ≡ 0 → ⊥) → Seen f ms (cell f pair.low pair.high) t Passed
    seen_marked w d = passed (λ k z. omega (arith, d))

    module _ {n s : ℕ} {b : Bool} (c : n ≡ place_count f) (l : pair.low < n) (h : pair.high < place_count f) (e : s ≡ symbol_at f pair.high) (d : s ≡ t)
        (x : b ≡ (open_graph f).goal (cell f pair.low pair.high)) where
      pub seen_goal : b ≡ true → Seen f ms (cell f pair.low pair.high) t Goal
      seen_goal y =
          goal
          (record {
            node = cell_inside f pair.low pair.high h (omega arith);
            symbol = rw (higher-cell f pair.low pair.high h) (sym e ∙ d);
            goal = sym x ∙ y;
          })

      pub seen_fresh : {m : ℕ} → b ≡ false → m ≡ mark_of f ms pair → m ≡ 0 → Seen f ms (cell f pair.low pair.high) t Fresh
      seen_fresh y w z =
          fresh
          (record {
            node = cell_inside f pair.low pair.high h (omega arith);
            symbol = rw (higher-cell f pair.low pair.high h) (sym e ∙ d);
            plain = sym x ∙ y;
            clear = sym w ∙ z;
          })
