-- Numbers listed in the order of a key: the list so far has, in this order, the numbers whose key is below a bound, and room for all.
use Rattle.std.specs.Prelude.{◌≡◌, List, ℕ, ◌+◌, ◌≤◌, ◌<◌, ltb, length, get_or, set, if◌then◌else◌}
use Rattle.std.proofs.Common.{sym, ap, ◌∙◌, arith, lt-ltb, le-ltb, eq-eqb, ne_eqb, length-set, get_or-set_same, get_or-set_other}
use Rattle.std.proofs.Math.Decide.{dec_lt, ℕ_discrete}
use Rattle.code.specs.Laws.Lists.{sum_bound}
use Rattle.code.specs.Laws.Cells.{on_push}
use Rattle.renumbering.specs.Sums.{sum_of, sum_none, sum_ones, sum_same, sum_add, only, sum_only}

-- x stands among the first n numbers of a list.
pub record Named (list : List ℕ) (n x : ℕ) : Type 0 where
  pub i : ℕ
  pub below : i < n
  pub is : get_or list i 0 ≡ x

-- 1 for a number whose key is below k
abbrev lower : (ℕ → ℕ) → ℕ → ℕ → ℕ
lower key k y = if ltb (key y) k then 1 else 0

-- The first `at` numbers of the list are those below `count` whose key is below k.
pub record Listed (key : ℕ → ℕ) (count k : ℕ) (list : List ℕ) (at : ℕ) : Type 0 where
  pub known : (i : ℕ) → i < at → get_or list i 0 < count
  pub low : (i : ℕ) → i < at → key (get_or list i 0) < k
  pub rises : (i j : ℕ) → i < j → j < at → key (get_or list i 0) < key (get_or list j 0)
  pub named : (y : ℕ) → y < count → key y < k → Named list at y
  pub past : (i : ℕ) → at ≤ i → get_or list i 0 ≡ 0
  pub many : at ≡ sum_of (lower key k) count
  pub room : count ≤ length list

module _ (key : ℕ → ℕ) (count : ℕ) where
  pub listed_none : (list : List ℕ) → ((i : ℕ) → get_or list i 0 ≡ 0) → count ≤ length list → Listed key count 0 list 0
  listed_none list blank room = record {
    known = λ i h. absurd (omega arith);
    low = λ i h. absurd (omega arith);
    rises = λ i j h l. absurd (omega arith);
    named = λ y h l. absurd (omega arith);
    past = λ i h. blank i;
    many = sym (sum_same (lower key 0) (λ y. 0) count (λ y h. rw (le-ltb (key y) 0 (omega arith))) ∙ sum_none count);
    room = room;
  }

  module _ {k at : ℕ} {list : List ℕ} (listed : Listed key count k list at) where
    -- No number has a key from k up to m.
    pub listed_skip : (m : ℕ) → k ≤ m → ((y : ℕ) → y < count → k ≤ key y → key y < m → ⊥) → Listed key count m list at
    listed_skip m h none = record {
      known = listed.known;
      low = λ i l. omega (arith, listed.low i l);
      rises = listed.rises;
      named = λ y l b. by_key y l b (dec_lt (key y) k);
      past = listed.past;
      many = listed.many ∙ sum_same (lower key k) (lower key m) count (λ y l. same y l (dec_lt (key y) k));
      room = listed.room;
    }
      where
        by_key : (y : ℕ) → y < count → key y < m → Dec (key y < k) → Named list at y
        by_key y l b (yes d) = listed.named y l d
        by_key y l b (no d) = absurd (none y l (omega arith) b)

        past_key : (y : ℕ) → y < count → k ≤ key y → Dec (key y < m) → lower key m y ≡ 0
        past_key y l d (yes b) = absurd (none y l d b)
        past_key y l d (no b) = rw (le-ltb (key y) m (omega arith))

        same : (y : ℕ) → y < count → Dec (key y < k) → lower key k y ≡ lower key m y
        same y l (yes d) = rw (lt-ltb (key y) k d, lt-ltb (key y) m (omega arith))
        same y l (no d) = rw (le-ltb (key y) k (omega arith)) (sym (past_key y l (omega arith) (dec_lt (key y) m)))

    -- x alone has the key k.
    module _ (x : ℕ) (known : x < count) (here : key x ≡ k) (alone : (y : ℕ) → y < count → key y ≡ k → y ≡ x) where
      one_more : (y : ℕ) → y < count → Dec (y ≡ x) → Dec (key y < k) → lower key (k + 1) y ≡ lower key k y + only x 1 y
      one_more y h (yes e) d =
          let at_key : key y ≡ k = ap key e ∙ here in
          rw (eq-eqb y x e, le-ltb (key y) k (omega arith), lt-ltb (key y) (k + 1) (omega arith))
      one_more y h (no e) (yes d) = rw (ne_eqb y x e, lt-ltb (key y) k d, lt-ltb (key y) (k + 1) (omega arith))
      one_more y h (no e) (no d) =
          let off : key y ≡ k → ⊥ = λ z. e (alone y h z) in
          rw (ne_eqb y x e, le-ltb (key y) k (omega arith), le-ltb (key y) (k + 1) (omega arith))

      more : at + 1 ≡ sum_of (lower key (k + 1)) count
      more =
          let sums = sum_same (lower key (k + 1)) (λ y. lower key k y + only x 1 y) count (λ y h. one_more y h (ℕ_discrete y x) (dec_lt (key y) k)) in
          omega (arith, sums, sum_add (lower key k) (only x 1) count, sum_only x 1 count known, listed.many)

      at_most : (m y : ℕ) → Dec (key y < m) → lower key m y ≤ 1
      at_most m y (yes h) = rw (lt-ltb (key y) m h) (omega arith)
      at_most m y (no h) = rw (le-ltb (key y) m (omega arith)) (omega arith)

      pub listed_room : at < count
      listed_room = omega (arith, more, sum_none count, sum_bound (lower key (k + 1)) (λ y. 0) 1 count (λ y h. at_most (k + 1) y (dec_lt (key y) (k + 1))))

      free : at < length list
      free = omega (arith, listed_room, listed.room)

      new_entry : get_or (set list at x) at 0 ≡ x
      new_entry = get_or-set_same list at x 0 free

      old_entry : (i : ℕ) → (i ≡ at → ⊥) → get_or (set list at x) i 0 ≡ get_or list i 0
      old_entry i h = get_or-set_other list at i x 0 h

      entry_before : (i : ℕ) → i < at → get_or (set list at x) i 0 ≡ get_or list i 0
      entry_before i h = old_entry i (λ e. omega arith)

      last_entry_lem : (i : ℕ) → i < at + 1 → (i < at → ⊥) → get_or (set list at x) i 0 ≡ x
      last_entry_lem i h l = let e : at ≡ i = omega arith in ap (λ (j : ℕ). get_or (set list at x) j 0) (sym e) ∙ new_entry

      pub listed_push : Listed key count (k + 1) (set list at x) (at + 1)
      listed_push = record {
        known = on_push list at x free (λ i y. y < count) known listed.known;
        low = on_push list at x free (λ i y. key y < k + 1) (omega arith) (λ i h. omega (arith, listed.low i h));
        rises = λ i j h l. all_rise i j h l (dec_lt j at);
        named = λ y h l. all_named y h l (dec_lt (key y) k);
        past = λ i h. old_entry i (λ e. omega arith) ∙ listed.past i (omega arith);
        many = more;
        room = simp length-set listed.room;
      }
        where
          all_rise : (i j : ℕ) → i < j → j < at + 1 → Dec (j < at) → key (get_or (set list at x) i 0) < key (get_or (set list at x) j 0)
          all_rise i j h l (yes b) = rw (entry_before i (omega arith), entry_before j b) (listed.rises i j h b)
          all_rise i j h l (no b) = rw (entry_before i (omega arith), last_entry_lem j l b) (omega (arith, listed.low i (omega arith)))

          all_named : (y : ℕ) → y < count → key y < k + 1 → Dec (key y < k) → Named (set list at x) (at + 1) y
          all_named y h l (yes b) =
              let m = listed.named y h b in
              record { i = m.i; below = omega (arith, m.below); is = entry_before m.i m.below ∙ m.is }
          all_named y h l (no b) = record { i = at; below = omega arith; is = new_entry ∙ sym (alone y h (omega arith)) }

    -- Every number is listed.
    pub listed_all : ((y : ℕ) → y < count → key y < k) → at ≡ count
    listed_all all = listed.many ∙ sum_same (lower key k) (λ y. 1) count (λ y h. rw (lt-ltb (key y) k (all y h))) ∙ sum_ones count
