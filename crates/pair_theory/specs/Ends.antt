-- A linked sequence is read whole on a path from its first word's first place to its last word's end.
use Rattle.std.specs.Prelude.{◌≡◌, refl, List, [], ◌∷◌, ◌++◌, ℕ, zero, suc, ◌+◌, ◌-◌, ◌≤◌, ◌<◌, length, drop}
use Rattle.std.proofs.Common.{sym, ap, ◌∙◌, subst, append-nil, arith, drop_of_length-le, drop-cons}
use Rattle.code.specs.Definitions.Tables.{Table, size, word, Linked, message}
use Rattle.code.specs.Laws.Sequences.{first_word, rest_linked, second_follows}
use Rattle.pair_theory.specs.Places.{Place, first_place, next_place, Plain, symbol, Is, Ends, Step, inside, across, Path, here, then}
use Rattle.pair_theory.specs.Paths.{last_of, first_is}

-- Places with the same word and the same index are the same.
abbrev pub place_eq : {p q : Place} → p.w ≡ q.w → p.k ≡ q.k → p ≡ q
place_eq e f = λ i. record { w = e i; k = f i }

module _ (t : Table) where
  -- the end of word x
  abbrev pub end_place : ℕ → Place
  end_place x = record { w = x; k = length (word t x) - 1 }

  -- A word has one end.
  pub ends_same : {p q : Place} → Ends t p → Ends t q → p.w ≡ q.w → p ≡ q
  ends_same {p} {q} d e f = place_eq f (let z = ap (λ (w : ℕ). length (word t w)) f in omega arith)

  -- The end of a word is a place where it ends.
  pub end_ends : Plain t → {x : ℕ} → x < size t → Ends t (end_place x)
  end_ends plain {x} h = omega (arith, plain.some x h)

module _ {t : Table} where
  -- One path, a step and another path.
  pub path_join : {p q r z : Place} {m n : List ℕ} → Path t p m q → Step t q r → Path t r n z → Path t p (m ++ n) z
  path_join (here e) s b = then e s b
  path_join (then e u a) s b = then e u (path_join a s b)

  path_cast : {p q : Place} {l m : List ℕ} → l ≡ m → Path t p l q → Path t p m q
  path_cast {p} {q} e a = subst (λ (z : List ℕ). Path t p z q) e a

  path_to : {p q r : Place} {m : List ℕ} → q ≡ r → Path t p m q → Path t p m r
  path_to {p} {m = m} e a = subst (λ (z : Place). Path t p m z) e a

  -- The symbols of a word from p on.
  last_symbol : (p : Place) → Is t p → Ends t p → Path t p (drop p.k (word t p.w)) (end_place t p.w)
  last_symbol p i e =
      let h = i.within in
      let l : length (word t p.w) ≤ suc p.k = omega arith in
      path_to (place_eq refl (omega arith)) (path_cast (sym (drop-cons (word t p.w) p.k 0 h ∙ ap (◌∷◌ (symbol t p)) (drop_of_length-le (word t p.w) l))) (here refl))

  one_symbol : (p : Place) → Is t p → suc p.k < length (word t p.w) → Path t (next_place p) (drop (suc p.k) (word t p.w)) (end_place t p.w)
      → Path t p (drop p.k (word t p.w)) (end_place t p.w)
  one_symbol p i h a = path_cast (sym (drop-cons (word t p.w) p.k 0 i.within)) (then refl (inside h refl) a)

  word_path : (d : ℕ) (p : Place) → Is t p → p.k + suc d ≡ length (word t p.w) → Path t p (drop p.k (word t p.w)) (end_place t p.w)
  word_path zero p i e = last_symbol p i (omega arith)
  word_path (suc d) p i e =
      one_symbol p i (omega arith) (word_path d (next_place p) (record { known = i.known; within = omega arith }) (omega arith))

  module _ (plain : Plain t) where
    whole_word : (x : ℕ) → x < size t → Path t (first_place x) (word t x) (end_place t x)
    whole_word x h = word_path (length (word t x) - 1) (first_place x) (first_is t plain x h) (omega (arith, plain.some x h))

    then-word : (x y : ℕ) (s : List ℕ) → Linked t (x ∷ y ∷ s) → Path t (first_place y) (message t (y ∷ s)) (end_place t (last_of y s))
        → Path t (first_place x) (message t (x ∷ y ∷ s)) (end_place t (last_of y s))
    then-word x y s l a =
        path_join (whole_word x (first_word l)) (across (end_ends t plain (first_word l)) (first_word (rest_linked l)) (second_follows l) refl) a

    -- A sequence is read whole on a path to the end of its last word.
    pub whole_path : (x : ℕ) (s : List ℕ) → Linked t (x ∷ s) → Path t (first_place x) (message t (x ∷ s)) (end_place t (last_of x s))
    whole_path x [] l = path_cast (sym (append-nil (word t x))) (whole_word x (first_word l))
    whole_path x (y ∷ s) l = then-word x y s l (whole_path y s (rest_linked l))
