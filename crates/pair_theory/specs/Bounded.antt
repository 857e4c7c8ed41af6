-- A test that computes: no walk from a first pair has more than a given number of steps, the step to the first pair included, and none meets two ends.
-- It goes along all walks, however often they meet, so that a delay of a small table is shown by computation.
use Rattle.std.specs.Prelude.{◌≡◌, refl, Bool, ◌&&◌, ltb, length, if◌then◌else◌}
use Rattle.std.proofs.Common.{sym, ◌∙◌, subst}
use Rattle.std.proofs.Math.Path.{ap}
use Rattle.std.proofs.Math.Bool.{true, false, not}
use Rattle.std.proofs.lemmas.Bool.{false≢true}
use Prim.Native.Nat.{ℕ, zero, suc, ◌-◌, ◌≤◌, ◌<◌}
use Rattle.std.proofs.Math.Decide.{ℕ_discrete}
use native.Mathlib.Omega.{arith}
use Rattle.std.proofs.Math.Dec.{eqb}
use borrow.Author.Tests.{lt-ltb, le-ltb, eq-eqb, ne_eqb}
use Rattle.code.specs.Definitions.Tables.{Table, size, word}
use Rattle.code.specs.Definitions.Readings.{Decipherable}
use Rattle.code.specs.Definitions.Delays.{SharePrefix, Delay}
use Rattle.pair_theory.specs.Places.{Place, first_place, next_place, Plain, symbol, Ends, Step, inside, across, Parting, FirstPair, CommonStep, PairAfter}
use Rattle.pair_theory.specs.Pairs.{compatible_long}
use Rattle.pair_theory.specs.Partings.{PartingEnds, parting_decipherable}
use Rattle.pair_theory.specs.Sharing.{share→pair}
use Rattle.pair_theory.specs.Walks.{Walk, stay, step, compatible_from, pair_iff}

-- Every number below n passes the test.
unfoldable pub every_below : (ℕ → Bool) → ℕ → Bool
every_below f zero = true
every_below f (suc n) = f n && every_below f n

module _ (t : Table) where
  abbrev pub is_end : Place → Bool
  is_end p = eqb (suc p.k) (length (word t p.w))

  -- The Bool says whether p stands inside its word.
  unfoldable pub every_step_of : Bool → Place → (Place → Bool) → Bool
  unfolding every_below
  every_step_of true p f = f (next_place p)
  every_step_of false p f = every_below (λ x. let r = f (first_place x) in if t.follow x p.w then r else true) (size t)

  -- Every place to which a step leads from p passes the test.
  abbrev pub every_step : Place → (Place → Bool) → Bool
  every_step p f = every_step_of (ltb (suc p.k) (length (word t p.w))) p f

  -- Fewer than n common steps lead the pair on, and to no two ends.
  unfoldable pub bounded_pair : ℕ → Place → Place → Bool
  unfolding every_step_of
  bounded_pair zero p q = false
  bounded_pair (suc n) p q =
      let further = every_step p (λ a. every_step q (λ b. let r = bounded_pair n a b in if eqb (symbol t a) (symbol t b) then r else true)) in
      if is_end p && is_end q then false else further

  -- From every first pair fewer than n common steps lead on, and to no two ends. (A branch is bound by `let`, so that it is computed only where it is taken.)
  unfoldable pub bounded : ℕ → Bool
  unfolding every_below bounded_pair
  bounded n =
      every_below
      (λ x.
      every_below
      (λ y.
      let r = bounded_pair n (first_place x) (first_place y) in
      if not (eqb x y) && eqb (symbol t (first_place x)) (symbol t (first_place y)) then r else true)
      (size t))
      (size t)

-- What follows from a test that is true.
both_left : (a b : Bool) → (a && b) ≡ true → a ≡ true
both_left true b e = refl
both_left false b e = e

both_right : (a b : Bool) → (a && b) ≡ true → b ≡ true
both_right true b e = e
both_right false b e = absurd (false≢true e)

where_true : (a b : Bool) → (if a then b else true) ≡ true → a ≡ true → b ≡ true
where_true true b e h = e
where_true false b e h = absurd (false≢true h)

where_false : (a b : Bool) → (if a then false else b) ≡ true → b ≡ true
where_false true b e = absurd (false≢true e)
where_false false b e = e

not_both : (a b : Bool) (c : Bool) → (if a && b then false else c) ≡ true → a ≡ true → b ≡ true → ⊥
not_both true true c e h k = false≢true e
not_both true false c e h k = false≢true k
not_both false b c e h k = false≢true h

last_below : (f : ℕ → Bool) (n x : ℕ) → f n ≡ true → (x < n → f x ≡ true) → x < suc n → Dec (x ≡ n) → f x ≡ true
last_below f n x e ih h (yes g) = rw g e
last_below f n x e ih h (no g) = ih (omega arith)

pub every_below_lem : (f : ℕ → Bool) (n : ℕ) → every_below f n ≡ true → (x : ℕ) → x < n → f x ≡ true
unfolding every_below
every_below_lem f zero e x h = absurd (omega arith)
every_below_lem f (suc n) e x h =
    last_below f n x (both_left (f n) (every_below f n) e) (every_below_lem f n (both_right (f n) (every_below f n) e) x) h (ℕ_discrete x n)

module _ (t : Table) where
  every_step_lem : (f : Place → Bool) {p q : Place} → every_step t p f ≡ true → Step t p q → f q ≡ true
  unfolding every_step_of
  every_step_lem f {p} {q} e (inside h g) =
      let b = lt-ltb (suc p.k) (length (word t p.w)) h in
      rw g (rw b at e)
  every_step_lem f {p} {q} e (across {x} d h r g) =
      let b = le-ltb (suc p.k) (length (word t p.w)) (omega arith) in
      rw g (where_true (t.follow x p.w) (f (first_place x)) (every_below_lem _ (size t) (rw b at e) x h) r)

  module _ (n : ℕ) (p q : Place) (e : bounded_pair t (suc n) p q ≡ true) where
    bounded_ends : Ends t p → Ends t q → ⊥
    unfolding bounded_pair
    bounded_ends h k = not_both (is_end t p) (is_end t q) _ e (eq-eqb _ _ h) (eq-eqb _ _ k)

    bounded_next : {a b : Place} → CommonStep t p q a b → bounded_pair t n a b ≡ true
    unfolding bounded_pair
    bounded_next {a} {b} s =
        let f = where_false (is_end t p && is_end t q) _ e in
        where_true (eqb (symbol t a) (symbol t b)) (bounded_pair t n a b) (every_step_lem _ (every_step_lem _ f s.left) s.right) (eq-eqb _ _ s.same)

  bounded_walk : (n : ℕ) {p q p' q' : Place} {k : ℕ} → bounded_pair t n p q ≡ true → Walk t k p q p' q' → (k < n) × (Ends t p' → Ends t q' → ⊥)
  unfolding bounded_pair
  bounded_walk zero e w = absurd (false≢true e)
  bounded_walk (suc n) {p} {q} e stay = (omega arith, bounded_ends n p q e)
  bounded_walk (suc n) {p} {q} e (step s w) = let z = bounded_walk n (bounded_next n p q e s) w in (omega (arith, z.0), z.1)

  module _ (n : ℕ) (e : bounded t n ≡ true) where
    bounded_first : {p q : Place} → FirstPair t (Parting t) p q → bounded_pair t n p q ≡ true
    unfolding bounded
    bounded_first {p} {q} f =
        let x = f.x in
        let y = f.y in
        rw (f.left, f.right)
        (where_true (not (eqb x y) && eqb (symbol t (first_place x)) (symbol t (first_place y))) (bounded_pair t n (first_place x) (first_place y))
        (every_below_lem _ (size t) (every_below_lem _ (size t) e x f.left_known) y f.right_known)
        (rw (ne_eqb x y f.starts.differ) (eq-eqb _ _ (ap (symbol t) (sym f.left) ∙ f.same ∙ ap (symbol t) f.right))))

    -- Where the test is true there is no compatible pair of two ends, so the code is decipherable.
    pub bounded_decipherable : Plain t → Decipherable t
    bounded_decipherable plain = parting_decipherable plain no_ends
      where
        no_ends : PartingEnds t → ⊥
        no_ends h =
            let a = compatible_from {n = length h.m - 1} h.pair (omega (arith, compatible_long h.pair)) in
            (bounded_walk n (bounded_first a.first) a.walk).1 h.left_ends h.right_ends

    -- Nor do more than n symbols reach a compatible pair.
    pub bounded_most : (k : ℕ) → PairAfter t k → k ≤ n
    bounded_most zero a = omega arith
    bounded_most (suc k) a = let z = pair_iff.0 a in omega (arith, (bounded_walk n (bounded_first z.first) z.further.walk).0)

    -- With two sequences that share n symbols this shows the delay.
    pub bounded_delay : Plain t → SharePrefix t n → Decipherable t × Delay t (suc n)
    bounded_delay plain s = (
      bounded_decipherable plain,
      record {
        enough = λ h. omega (arith, bounded_most (suc n) (share→pair plain (bounded_decipherable plain) (omega arith) h));
        needed = λ M g. subst (SharePrefix t) (omega arith) s;
      },
    )
