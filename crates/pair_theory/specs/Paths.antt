-- Paths of places are the openings of messages: a linked sequence gives a path for every number of its message's symbols, by following them, and a
-- path gives a linked sequence, by finishing the path's last word.
use Rattle.std.specs.Prelude.{◌≡◌, refl, true, List, [], ◌∷◌, ◌++◌, ℕ, zero, suc, ◌≤◌, ◌<◌, length, take, drop}
use Rattle.std.proofs.Common.{sym, subst, arith, length-append, length-drop, drop_of_length-le, drop-cons}
use Rattle.std.proofs.Math.Decide.{dec_lt}
use Rattle.code.specs.Definitions.Tables.{Table, size, word, Linked, one, more, message}
use Rattle.code.specs.Laws.Sequences.{first_word, rest_linked, second_follows}
use Rattle.pair_theory.specs.Places.{Place, first_place, next_place, Plain, symbol, Is, Ends, Step, inside, across, Path, here, then}

-- the last word of x ∷ s
abbrev pub last_of : ℕ → List ℕ → ℕ
last_of x [] = x
last_of x (y ∷ s) = last_of y s

module _ (t : Table) where
  -- What is left to read from place p on, its own symbol included, where the words s come after p's word.
  abbrev pub rest : Place → List ℕ → List ℕ
  rest p s = drop p.k (word t p.w) ++ message t s

  -- The first N symbols of r are read on a path from p, which ends at the end of a word if these are all.
  pub record Arrive (N : ℕ) (p : Place) (r : List ℕ) : Type 0 where
    pub q : Place
    pub path : Path t p (take N r) q
    pub full : N ≡ length r → Ends t q

  -- The path's symbols m begin what a linked sequence has left to read from p on, and are all of it if the path ends at the end of a word; the path ends in
  -- the sequence's last word.
  pub record Sequence (p : Place) (m : List ℕ) (q : Place) : Type 0 where
    pub s : List ℕ
    pub linked : Linked t (p.w ∷ s)
    pub last : last_of p.w s ≡ q.w
    pub starts : take (length m) (rest p s) ≡ m
    pub whole : Ends t q → rest p s ≡ m

  rest_cons : (p : Place) (s : List ℕ) → Is t p → rest p s ≡ symbol t p ∷ rest (next_place p) s
  rest_cons p s i = let h = i.within in rw (drop-cons (word t p.w) p.k 0)

  rest_after : (p : Place) (s : List ℕ) → Ends t p → rest (next_place p) s ≡ message t s
  rest_after p s e = let h : length (word t p.w) ≤ suc p.k = omega arith in rw (drop_of_length-le (word t p.w) h)

  -- The first place of a word is a place of the table.
  pub first_is : Plain t → (x : ℕ) → x < size t → Is t (first_place x)
  first_is plain x h = record { known = h; within = plain.some x h }

  next_is : (p : Place) → Is t p → suc p.k < length (word t p.w) → Is t (next_place p)
  next_is p i h = record { known = i.known; within = h }

  -- A step leads to a place of the table.
  pub step_is : Plain t → {p q : Place} → Is t p → Step t p q → Is t q
  step_is plain {p} i (inside h e) = subst (Is t) (sym e) (next_is p i h)
  step_is plain i (across {x} e h f g) = subst (Is t) (sym g) (first_is plain x h)

  stop : (p : Place) (s : List ℕ) → Is t p → Arrive 1 p (rest p s)
  stop p s i = rw (rest_cons p s i) record { q = p; path = here refl; full = λ e. omega (arith, simp (length-append, length-drop) at e, i.within) }

  on_arrive : (N : ℕ) (p q : Place) (r : List ℕ) → Step t p q → Arrive N q r → Arrive (suc N) p (symbol t p ∷ r)
  on_arrive N p q r s a = record { q = a.q; path = then refl s a.path; full = λ e. a.full (omega arith) }

  module _ (plain : Plain t) where
    -- What is known of one number of symbols, for every place and every sequence.
    abbrev Follows : ℕ → Type 0
    Follows N = (p : Place) (s : List ℕ) → Is t p → Linked t (p.w ∷ s) → N ≤ length (rest p s) → Arrive N p (rest p s)

    follow_inside : (N : ℕ) → Follows N → (p : Place) (s : List ℕ) → Is t p → Linked t (p.w ∷ s) → suc N ≤ length (rest p s)
        → suc p.k < length (word t p.w) → Arrive (suc N) p (rest p s)
    follow_inside N ih p s i g l h =
        let l' = rw (rest_cons p s i) at l in
        rw (rest_cons p s i) (on_arrive N p (next_place p) (rest (next_place p) s) (inside h refl) (ih (next_place p) s (next_is p i h) g (omega arith)))

    follow_across : (N : ℕ) → Follows N → (p : Place) (s : List ℕ) → Is t p → Linked t (p.w ∷ s) → 1 ≤ N → suc N ≤ length (rest p s) → Ends t p
        → Arrive (suc N) p (rest p s)
    follow_across N ih p [] i g o l e = absurd (let l' = rw (rest_cons p [] i, rest_after p [] e) at l in omega arith)
    follow_across N ih p (x ∷ s) i g o l e =
        let l' = rw (rest_cons p (x ∷ s) i, rest_after p (x ∷ s) e) at l in
        let r = rest_linked g in
        let h = first_word r in
        rw (rest_cons p (x ∷ s) i, rest_after p (x ∷ s) e)
        (on_arrive N p (first_place x) (message t (x ∷ s)) (across e h (second_follows g) refl) (ih (first_place x) s (first_is plain x h) r (omega arith)))

    follow_on : (N : ℕ) → Follows N → 1 ≤ N → (p : Place) (s : List ℕ) → Is t p → Linked t (p.w ∷ s) → suc N ≤ length (rest p s)
        → Dec (suc p.k < length (word t p.w)) → Arrive (suc N) p (rest p s)
    follow_on N ih o p s i g l (yes h) = follow_inside N ih p s i g l h
    follow_on N ih o p s i g l (no h) = let w = i.within in follow_across N ih p s i g o l (omega arith)

    follows : (N : ℕ) → Follows (suc N)
    follows zero p s i g l = stop p s i
    follows (suc N) p s i g l = follow_on (suc N) (follows N) (omega arith) p s i g l (dec_lt (suc p.k) (length (word t p.w)))

    -- Each number of symbols of a linked sequence's message is read on a path from its first word's first place; all of them lead to an end.
    pub along : (N x : ℕ) (s : List ℕ) → Linked t (x ∷ s) → 1 ≤ N → N ≤ length (message t (x ∷ s)) → Arrive N (first_place x) (message t (x ∷ s))
    along zero x s g o l = absurd (omega arith)
    along (suc N) x s g o l = follows N (first_place x) s (first_is plain x (first_word g)) g l

    last_word : (p : Place) (c : ℕ) → Is t p → symbol t p ≡ c → Sequence p (c ∷ []) p
    last_word p c i e = record {
      s = [];
      linked = one i.known;
      last = refl;
      starts = rw (rest_cons p [] i, e);
      whole = λ f. rw (rest_cons p [] i, rest_after p [] f, e);
    }

    word_goes_on : (p r : Place) (c : ℕ) (m : List ℕ) → Is t p → symbol t p ≡ c → Sequence (next_place p) m r → Sequence p (c ∷ m) r
    word_goes_on p r c m i e a = record {
      s = a.s;
      linked = a.linked;
      last = a.last;
      starts = rw (rest_cons p a.s i, e, a.starts);
      whole = λ f. rw (rest_cons p a.s i, e, a.whole f);
    }

    word_follows : (p r : Place) (x c : ℕ) (m : List ℕ) → Is t p → symbol t p ≡ c → Ends t p → t.follow x p.w ≡ true
        → Sequence (first_place x) m r → Sequence p (c ∷ m) r
    word_follows p r x c m i e d f a = record {
      s = x ∷ a.s;
      linked = more i.known f a.linked;
      last = a.last;
      starts = rw (rest_cons p (x ∷ a.s) i, rest_after p (x ∷ a.s) d, e, a.starts);
      whole = λ g. rw (rest_cons p (x ∷ a.s) i, rest_after p (x ∷ a.s) d, e, a.whole g);
    }

    one_step : (p q r : Place) (c : ℕ) (m : List ℕ) → Is t p → symbol t p ≡ c → Step t p q → Sequence q m r → Sequence p (c ∷ m) r
    one_step p q r c m i e (inside h g) a = word_goes_on p r c m i e (subst (λ (z : Place). Sequence z m r) g a)
    one_step p q r c m i e (across {x} d h f g) a = word_follows p r x c m i e d f (subst (λ (z : Place). Sequence z m r) g a)

    -- Every path from a place of the table is the opening of a linked sequence, and the whole of it if the path ends at the end of a word.
    pub sequence_of : {p q : Place} {m : List ℕ} → Is t p → Path t p m q → Sequence p m q
    sequence_of i (here {p} {c} e) = last_word p c i e
    sequence_of i (then {p} {q} {r} {c} {m} e s a) = one_step p q r c m i e s (sequence_of (step_is plain i s) a)

    -- So a path from the first place of word x opens a sequence that starts with x.
    pub sequence_from : {x : ℕ} {q : Place} {m : List ℕ} → x < size t → Path t (first_place x) m q → Sequence (first_place x) m q
    sequence_from {x} h a = sequence_of (first_is plain x h) a
