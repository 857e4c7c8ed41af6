-- Lists of copies: the copy of z after y stands where it is looked for, and after each word and its copies there is exactly one number for each word.
use Rattle.std.specs.Prelude.{◌≡◌, refl, Bool, true, false, not, ◌||◌, List, [], ◌∷◌, ℕ, suc, ◌+◌, ◌-◌, ◌≤◌, ◌<◌, eqb, length, get_or, if◌then◌else◌}
use Rattle.std.proofs.Common.{sym, ap, ◌∙◌, subst, true≢false, arith, eqb-true, lt-ltb, le-ltb, eq-eqb}
use Rattle.std.proofs.lemmas.Bool.{false≢true, not-true}
use Rattle.std.proofs.Math.Bool.{and-eq-true_iff}
use Rattle.std.proofs.Math.Decide.{dec_lt}
use Rattle.code.specs.Definitions.Lists.{any}
use Rattle.code.specs.Definitions.Bans.{Copy, no_copy, is_copy, has_copy, copy_index, copy_at, origin, stands_after, number_after}
use Rattle.code.specs.Laws.Lists.{any_at}

-- The copy of z after y stands at index i.
pub record CopyAt (cs : List Copy) (y z i : ℕ) : Type 0 where
  pub below : i < length cs
  pub behind : (get_or cs i no_copy).behind ≡ y
  pub of : (get_or cs i no_copy).of ≡ z

-- Copies of words below n, each once.
pub record Once (n : ℕ) (cs : List Copy) : Type 0 where
  pub behind_known : (i : ℕ) → i < length cs → (get_or cs i no_copy).behind < n
  pub of_known : (i : ℕ) → i < length cs → (get_or cs i no_copy).of < n
  pub once : {y z : ℕ} (i j : ℕ) → CopyAt cs y z i → CopyAt cs y z j → i ≡ j

copy_here : (y z : ℕ) (c : Copy) (cs : List Copy) → is_copy y z c ≡ true → CopyAt (c ∷ cs) y z 0
copy_here y z c cs e =
    let a = (and-eq-true_iff (eqb c.behind y) (eqb c.of z)).0 e in
    record { below = omega arith; behind = eqb-true _ _ a.0; of = eqb-true _ _ a.1 }

pub copy_later : (y z i : ℕ) (c : Copy) (cs : List Copy) → CopyAt cs y z i → CopyAt (c ∷ cs) y z (suc i)
copy_later y z i c cs h = record { below = let l = h.below in omega arith; behind = h.behind; of = h.of }

found_step : (y z : ℕ) (c : Copy) (cs : List Copy) → (any (is_copy y z) cs ≡ true → CopyAt cs y z (copy_index cs y z))
    → (a : Bool) → is_copy y z c ≡ a → (a || any (is_copy y z) cs) ≡ true → CopyAt (c ∷ cs) y z (if a then 0 else suc (copy_index cs y z))
found_step y z c cs ih true e h = copy_here y z c cs e
found_step y z c cs ih false e h = copy_later y z (copy_index cs y z) c cs (ih h)

-- Where there is a copy of z after y its index tells where.
pub found : (y z : ℕ) (cs : List Copy) → has_copy cs y z ≡ true → CopyAt cs y z (copy_index cs y z)
unfolding has_copy any copy_index
found y z [] h = absurd (false≢true h)
found y z (c ∷ cs) h = found_step y z c cs (found y z cs) (is_copy y z c) refl h

-- A copy that stands somewhere is there.
pub has_copy_lem : {cs : List Copy} {y z i : ℕ} → CopyAt cs y z i → has_copy cs y z ≡ true
unfolding has_copy
has_copy_lem {cs} {y} {z} {i} h = go (any (is_copy y z) cs) refl
  where
    here : is_copy y z (get_or cs i no_copy) ≡ true
    here = (and-eq-true_iff (eqb (get_or cs i no_copy).behind y) (eqb (get_or cs i no_copy).of z)).1 (eq-eqb _ _ h.behind, eq-eqb _ _ h.of)

    go : (a : Bool) → any (is_copy y z) cs ≡ a → any (is_copy y z) cs ≡ true
    go true e = e
    go false e = absurd (true≢false (sym here ∙ any_at (is_copy y z) cs no_copy e i h.below))

module _ (n : ℕ) (cs : List Copy) where
  -- A word stands for itself, a copy for its word.
  pub origin_word : (x : ℕ) → x < n → origin n cs x ≡ x
  unfolding origin
  origin_word x h = rw (lt-ltb x n h)

  pub origin_copy : (x : ℕ) → n ≤ x → origin n cs x ≡ (copy_at n cs x).of
  unfolding origin
  origin_copy x h = rw (le-ltb x n h)

  pub stands_word : (x y : ℕ) → x < n → stands_after n cs x y ≡ not (has_copy cs y x)
  unfolding stands_after
  stands_word x y h = rw (lt-ltb x n h)

  pub stands_copy : (x y : ℕ) → n ≤ x → stands_after n cs x y ≡ eqb (copy_at n cs x).behind y
  unfolding stands_after
  stands_copy x y h = rw (le-ltb x n h)

  pub next_copy : (y x : ℕ) → has_copy cs y x ≡ true → number_after n cs y x ≡ n + copy_index cs y x
  unfolding number_after
  next_copy y x e = rw e

  pub next_itself : (y x : ℕ) → has_copy cs y x ≡ false → number_after n cs y x ≡ x
  unfolding number_after
  next_itself y x e = rw e

  -- What the number of a copy that there is stands for, and where.
  pub index_of : (y z : ℕ) → has_copy cs y z ≡ true → origin n cs (n + copy_index cs y z) ≡ z
  index_of y z e =
      let i : n + copy_index cs y z - n ≡ copy_index cs y z = omega arith in
      origin_copy (n + copy_index cs y z) (omega arith) ∙ rw i (found y z cs e).of

  pub index_behind : (y z : ℕ) → has_copy cs y z ≡ true → (copy_at n cs (n + copy_index cs y z)).behind ≡ y
  index_behind y z e = let i : n + copy_index cs y z - n ≡ copy_index cs y z = omega arith in rw i (found y z cs e).behind

  next_of_case : (y x : ℕ) → x < n → (a : Bool) → has_copy cs y x ≡ a → origin n cs (number_after n cs y x) ≡ x
  next_of_case y x h true e = rw (next_copy y x e) (index_of y x e)
  next_of_case y x h false e = rw (next_itself y x e) (origin_word x h)

  -- The number of x after y stands for x,
  pub next_of : (y x : ℕ) → x < n → origin n cs (number_after n cs y x) ≡ x
  next_of y x h = next_of_case y x h (has_copy cs y x) refl

  next_stands_case : (y x : ℕ) → x < n → (a : Bool) → has_copy cs y x ≡ a → stands_after n cs (number_after n cs y x) y ≡ true
  next_stands_case y x h true e = rw (next_copy y x e) (stands_copy (n + copy_index cs y x) y (omega arith) ∙ eq-eqb _ _ (index_behind y x e))
  next_stands_case y x h false e = rw (next_itself y x e) (stands_word x y h ∙ ap not e)

  -- stands after y,
  pub next_stands : (y x : ℕ) → x < n → stands_after n cs (number_after n cs y x) y ≡ true
  next_stands y x h = next_stands_case y x h (has_copy cs y x) refl

  next_known_case : (y x : ℕ) → x < n → (a : Bool) → has_copy cs y x ≡ a → number_after n cs y x < n + length cs
  next_known_case y x h true e = let l = (found y x cs e).below in rw (next_copy y x e) (omega arith)
  next_known_case y x h false e = rw (next_itself y x e) (omega arith)

  -- and is a word or a copy.
  pub next_known : (y x : ℕ) → x < n → number_after n cs y x < n + length cs
  next_known y x h = next_known_case y x h (has_copy cs y x) refl

  module _ (copies : Once n cs) where
    origin_known_case : (x : ℕ) → x < n + length cs → Dec (x < n) → origin n cs x < n
    origin_known_case x h (yes l) = rw (origin_word x l) l
    origin_known_case x h (no l) = rw (origin_copy x (omega arith)) (copies.of_known (x - n) (omega arith))

    pub origin_known : (x : ℕ) → x < n + length cs → origin n cs x < n
    origin_known x h = origin_known_case x h (dec_lt x n)

    -- A copy stands where it is looked for.
    pub copy_index_lem : (x : ℕ) → x < n + length cs → n ≤ x
        → (has_copy cs (copy_at n cs x).behind (origin n cs x) ≡ true) × (n + copy_index cs (copy_at n cs x).behind (origin n cs x) ≡ x)
    copy_index_lem x h l =
        let at : CopyAt cs (copy_at n cs x).behind (origin n cs x) (x - n) = record { below = omega arith; behind = refl; of = sym (origin_copy x l) } in
        let has = has_copy_lem at in
        let same = copies.once (copy_index cs (copy_at n cs x).behind (origin n cs x)) (x - n) (found (copy_at n cs x).behind (origin n cs x) cs has) at in
        (has, omega arith)

    stands_next_case : (x y : ℕ) → x < n + length cs → stands_after n cs x y ≡ true → Dec (x < n) → x ≡ number_after n cs y (origin n cs x)
    stands_next_case x y h e (yes l) =
        let none = not-true (has_copy cs y x) (sym (stands_word x y l) ∙ e) in
        sym (ap (number_after n cs y) (origin_word x l) ∙ next_itself y x none)
    stands_next_case x y h e (no l) =
        let far : n ≤ x = omega arith in
        let behind = eqb-true (copy_at n cs x).behind y (sym (stands_copy x y far) ∙ e) in
        let at = copy_index_lem x h far in
        subst (λ (v : ℕ). x ≡ number_after n cs v (origin n cs x)) behind (sym (next_copy (copy_at n cs x).behind (origin n cs x) at.0 ∙ at.1))

    -- What stands after y is the number of its word after y.
    pub stands_next : (x y : ℕ) → x < n + length cs → stands_after n cs x y ≡ true → x ≡ number_after n cs y (origin n cs x)
    stands_next x y h e = stands_next_case x y h e (dec_lt x n)
