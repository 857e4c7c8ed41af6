-- The enlarged code covers the table with bans: behind y the word x is the copy of x that stands after y, if there is one, else x itself. So their permitted
-- sequences match one to one (Covers), and readings and delays are the same (Matches).
use Rattle.std.specs.Prelude.{◌≡◌, refl, Bool, true, false, not, ◌&&◌, List, [], map, ℕ, ◌+◌, ◌-◌, ◌≤◌, ◌<◌, ltb, length, get_or}
use Rattle.std.proofs.Common.{sym, ap, ap₂, ◌∙◌, subst, subst₂, arith, length-append, get_or-append-add, ltb-true, lt-ltb, le-ltb}
use Rattle.std.proofs.lemmas.Bool.{false≢true, not-true}
use Rattle.std.proofs.Math.Bool.{and-eq-true_iff}
use Rattle.std.proofs.Math.Decide.{dec_lt}
use Rattle.std.proofs.lemmas.List.{length-map}
use Rattle.std.proofs.Math.ListN.{get_or-append, get_or-map}
use Rattle.code.specs.Definitions.Tables.{Table, size, word}
use Rattle.code.specs.Definitions.Bans.{Copy, no_copy, has_copy, copy_index, copy_at, origin, stands_after, number_after, with_bans, unbanned, may_come, enlarged}
use Rattle.code.specs.Laws.Lists.{get_or_within}
use Rattle.ban_theory.specs.Covers.{Cover}
use Rattle.ban_theory.specs.CopyLists.{Once, origin_word, origin_copy, origin_known, next_copy, next_itself, index_of, index_behind, next_of, next_stands, next_known, stands_next}

-- The copies of words below n serve the bans b: every ban has its copy.
pub record Serves (n : ℕ) (cs : List Copy) (b : ℕ → ℕ → ℕ → Bool) : Type 0 where
  pub copies : Once n cs
  pub served : (x y z : ℕ) → y < n → z < n → b x y z ≡ true → has_copy cs y z ≡ true

module _ (t : Table) (cs : List Copy) (b : ℕ → ℕ → ℕ → Bool) where
  -- the symbols of a copy
  abbrev copied : Copy → List ℕ
  copied c = word t c.of

  pub enlarged-size : size (enlarged t cs b) ≡ size t + length cs
  enlarged-size = length-append t.words (map copied cs) ∙ ap (λ (k : ℕ). size t + k) (length-map cs copied)

  known : (x : ℕ) → x < size (enlarged t cs b) → x < size t + length cs
  known x h = omega (arith, enlarged-size)

  pub unbanned_word : (x y : ℕ) → y < size t → unbanned t cs b x y ≡ true
  unfolding unbanned
  unbanned_word x y h = rw (lt-ltb y (size t) h)

  pub unbanned_copy : (x y : ℕ) → size t ≤ y → unbanned t cs b x y ≡ not (b (origin (size t) cs x) (copy_at (size t) cs y).behind (origin (size t) cs y))
  unfolding unbanned
  unbanned_copy x y h = rw (le-ltb y (size t) h)

  -- Behind the copy of y after w the bans of w then y hold.
  unbanned_next : (w y x : ℕ) → has_copy cs w y ≡ true → unbanned t cs b x (number_after (size t) cs w y) ≡ not (b (origin (size t) cs x) w y)
  unbanned_next w y x e =
      ap (unbanned t cs b x) (next_copy (size t) cs w y e)
      ∙ unbanned_copy x (size t + copy_index cs w y) (omega arith)
      ∙ ap₂ (λ (i j : ℕ). not (b (origin (size t) cs x) i j)) (index_behind (size t) cs w y e) (index_of (size t) cs w y e)

  -- What a 1 of the enlarged matrix says, and what makes one.
  pub record Comes (x y : ℕ) : Type 0 where
    pub follow : t.follow (origin (size t) cs x) (origin (size t) cs y) ≡ true
    pub stands : stands_after (size t) cs x (origin (size t) cs y) ≡ true
    pub free : unbanned t cs b x y ≡ true

  pub comes : (x y : ℕ) → may_come t cs b x y ≡ true → Comes x y
  unfolding may_come
  comes x y e =
      let a = (and-eq-true_iff (t.follow (origin (size t) cs x) (origin (size t) cs y)) (stands_after (size t) cs x (origin (size t) cs y) && unbanned t cs b x y)).0 e in
      let d = (and-eq-true_iff (stands_after (size t) cs x (origin (size t) cs y)) (unbanned t cs b x y)).0 a.1 in
      record { follow = a.0; stands = d.0; free = d.1 }

  pub may_come_lem : (x y : ℕ) → Comes x y → may_come t cs b x y ≡ true
  unfolding may_come
  may_come_lem x y h =
      (and-eq-true_iff (t.follow (origin (size t) cs x) (origin (size t) cs y)) (stands_after (size t) cs x (origin (size t) cs y) && unbanned t cs b x y)).1
      (h.follow, (and-eq-true_iff (stands_after (size t) cs x (origin (size t) cs y)) (unbanned t cs b x y)).1 (h.stands, h.free))

  -- The word x may come behind y, whichever number y has, where it may follow y and no ban forbids it there.
  next_comes : (y x v : ℕ) → x < size t → origin (size t) cs v ≡ y → t.follow x y ≡ true → unbanned t cs b (number_after (size t) cs y x) v ≡ true
      → may_come t cs b (number_after (size t) cs y x) v ≡ true
  next_comes y x v h e f u = may_come_lem (number_after (size t) cs y x) v (record {
    follow = subst₂ (λ (i j : ℕ). t.follow i j ≡ true) (sym (next_of (size t) cs y x h)) (sym e) f;
    stands = subst (λ (i : ℕ). stands_after (size t) cs (number_after (size t) cs y x) i ≡ true) (sym e) (next_stands (size t) cs y x h);
    free = u;
  })

  begins_word : (x : ℕ) → (ltb x (size t) && t.begins x) ≡ true → (x < size t) × (t.begins x ≡ true)
  begins_word x e = let a = (and-eq-true_iff (ltb x (size t)) (t.begins x)).0 e in (ltb-true _ _ a.0, a.1)

  copy_word : (i : ℕ) → i < length cs → word (enlarged t cs b) (size t + i) ≡ word t (get_or cs i no_copy).of
  copy_word i h =
      get_or-append-add t.words (map copied cs) i []
      ∙ get_or_within (map copied cs) i [] (copied no_copy) (rw (length-map cs copied) h)
      ∙ get_or-map copied cs i no_copy

  word_same : (x : ℕ) → x < size t + length cs → Dec (x < size t) → word (enlarged t cs b) x ≡ word t (origin (size t) cs x)
  word_same x h (yes l) = get_or-append t.words (map copied cs) [] x l ∙ ap (word t) (sym (origin_word (size t) cs x l))
  word_same x h (no l) =
      let at : size t + (x - size t) ≡ x = omega arith in
      subst (λ (v : ℕ). word (enlarged t cs b) v ≡ word t (copy_at (size t) cs x).of) at (copy_word (x - size t) (omega arith))
      ∙ ap (word t) (sym (origin_copy (size t) cs x (omega arith)))

  module _ (serves : Serves (size t) cs b) where
    -- What comes behind y after w is banned by nothing,
    obeys : (w y x : ℕ) → w < size t → y < size t → (a : Bool) → has_copy cs w y ≡ a → unbanned t cs b x (number_after (size t) cs w y) ≡ true
        → b (origin (size t) cs x) w y ≡ false
    obeys w y x h k true e u = not-true (b (origin (size t) cs x) w y) (sym (unbanned_next w y x e) ∙ u)
    obeys w y x h k false e u = go (b (origin (size t) cs x) w y) refl
      where
        go : (a : Bool) → b (origin (size t) cs x) w y ≡ a → b (origin (size t) cs x) w y ≡ false
        go false z = z
        go true z = absurd (false≢true (sym e ∙ serves.served (origin (size t) cs x) w y h k z))

    -- and what is banned by nothing may come there.
    obeyed : (w y x : ℕ) → y < size t → (a : Bool) → has_copy cs w y ≡ a → b (origin (size t) cs x) w y ≡ false → unbanned t cs b x (number_after (size t) cs w y) ≡ true
    obeyed w y x k true e z = unbanned_next w y x e ∙ ap not z
    obeyed w y x k false e z = ap (unbanned t cs b x) (next_itself (size t) cs w y e) ∙ unbanned_word x y k

    -- The enlarged code covers the table with bans.
    pub enlarged_covers : Cover (enlarged t cs b) (with_bans t b) (origin (size t) cs) (λ x. x) (number_after (size t) cs)
    enlarged_covers = record {
      free = λ x y z. refl;
      named = λ x h. origin_known (size t) cs serves.copies x (known x h);
      words = λ x h. word_same x (known x h) (dec_lt x (size t));
      start_known = λ x h. omega (arith, enlarged-size);
      start_named = origin_word (size t) cs;
      after_known = λ y x h k. omega (arith, enlarged-size, next_known (size t) cs y x k);
      after_named = λ y x h k. next_of (size t) cs y x k;
      begins = λ x h e. (and-eq-true_iff (ltb x (size t)) (t.begins x)).1 (lt-ltb _ _ h, e);
      begin_start = λ x h e. sym (origin_word (size t) cs x (begins_word x e).0);
      begin_named = λ x h e. ap t.begins (origin_word (size t) cs x (begins_word x e).0) ∙ (begins_word x e).1;
      follow-after = λ x y h k e. stands_next (size t) cs serves.copies x (origin (size t) cs y) (known x h) (comes x y e).stands;
      follow_named = λ x y h k e. (comes x y e).follow;
      follow_obeys = λ w y x h k l e. obeys w y x h k (has_copy cs w y) refl (comes x (number_after (size t) cs w y) e).free;
      follows_start = λ y x h k f. next_comes y x y k (origin_word (size t) cs y h) f (unbanned_word (number_after (size t) cs y x) y h);
      follows = λ w y x h k l f z.
          next_comes y x (number_after (size t) cs w y) l (next_of (size t) cs w y k) f
          (obeyed w y (number_after (size t) cs y x) k (has_copy cs w y) refl (ap (λ (i : ℕ). b i w y) (next_of (size t) cs y x l) ∙ z));
    }
