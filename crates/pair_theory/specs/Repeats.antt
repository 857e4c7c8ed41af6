-- A walk with as many steps as there are unordered pairs meets some pair twice. The pairs met are counted by their numbers: as long as no pair is met
-- again each step adds one to the count.
use Rattle.std.specs.Prelude.{◌≡◌, Bool, true, false, ◌||◌, ◌⊎◌, ℕ, suc, ◌+◌, ◌≤◌, ◌<◌, eqb, if◌then◌else◌}
use Rattle.std.proofs.Math.Path.{refl}
use Rattle.std.proofs.Common.{sym}
use Rattle.std.proofs.Math.Logic.{inl, inr}
use native.Mathlib.Omega.{arith}
use borrow.Author.Tests.{eqb-true, eq-eqb}
use Rattle.code.specs.Definitions.Tables.{Table}
use Rattle.pair_theory.specs.Places.{Place, Plain, Is, CommonStep}
use Rattle.pair_theory.specs.Paths.{step_is}
use Rattle.pair_theory.specs.Walks.{Walk, stay, step}
use Rattle.pair_theory.specs.Numbering.{up_to, up_to_bits, up_to_more}
use Rattle.pair_theory.specs.Finite.{pair_count, pair_number, pair_below}

abbrev bit : Bool → ℕ
bit b = if b then 1 else 0

bit_one : (b : Bool) → bit b ≤ 1
bit_one true = omega arith
bit_one false = omega arith

bit_or_lem : (a b : Bool) → bit b ≤ bit (a || b)
bit_or_lem true true = omega arith
bit_or_lem true false = omega arith
bit_or_lem false b = omega arith

module _ (t : Table) where
  -- The walk meets the pair of number i.
  visits : {n : ℕ} {p q p' q' : Place} → Walk t n p q p' q' → ℕ → Bool
  visits {p = p} {q = q} stay i = eqb i (pair_number t p q)
  visits {p = p} {q = q} (step s w) i = eqb i (pair_number t p q) || visits w i

  -- Where a walk of n steps meets the pair of number i.
  pub record Meets (i n : ℕ) (p q p' q' : Place) : Type 0 where
    pub a : Place
    pub b : Place
    pub j : ℕ
    pub k : ℕ
    pub before : Walk t j p q a b
    pub after : Walk t k a b p' q'
    pub long : j + k ≡ n
    pub number : pair_number t a b ≡ i

  -- A walk of n steps that meets a pair twice, with at least one step between.
  pub record MeetsTwice (n : ℕ) (p q p' q' : Place) : Type 0 where
    pub a : Place
    pub b : Place
    pub c : Place
    pub d : Place
    pub i : ℕ
    pub j : ℕ
    pub k : ℕ
    pub before : Walk t i p q a b
    pub between : Walk t (suc j) a b c d
    pub after : Walk t k c d p' q'
    pub long : i + suc j + k ≡ n
    pub same : pair_number t a b ≡ pair_number t c d

module _ {t : Table} where
  meets_here : {i n : ℕ} {p q p' q' : Place} → Walk t n p q p' q' → eqb i (pair_number t p q) ≡ true → Meets t i n p q p' q'
  meets_here {i} {n} {p} {q} w e =
      record { a = p; b = q; j = 0; k = n; before = stay; after = w; long = omega arith; number = sym (eqb-true i (pair_number t p q) e) }

  meets_later : {i n : ℕ} {p q x y p' q' : Place} → CommonStep t p q x y → Meets t i n x y p' q' → Meets t i (suc n) p q p' q'
  meets_later s m = record {
    a = m.a;
    b = m.b;
    j = suc m.j;
    k = m.k;
    before = step s m.before;
    after = m.after;
    long = omega (arith, m.long);
    number = m.number;
  }

  here_or_later : {i n : ℕ} {p q x y p' q' : Place} → CommonStep t p q x y → (w : Walk t n x y p' q') → (visits t w i ≡ true → Meets t i n x y p' q')
      → (b : Bool) → eqb i (pair_number t p q) ≡ b → (b || visits t w i) ≡ true → Meets t i (suc n) p q p' q'
  here_or_later s w ih true e v = meets_here (step s w) e
  here_or_later s w ih false e v = meets_later s (ih v)

  meets : {i n : ℕ} {p q p' q' : Place} (w : Walk t n p q p' q') → visits t w i ≡ true → Meets t i n p q p' q'
  unfolding visits
  meets stay v = meets_here stay v
  meets {i} {p = p} {q = q} (step s w) v = here_or_later s w (λ u. meets w u) (eqb i (pair_number t p q)) refl v

  twice_here : {n : ℕ} {p q x y p' q' : Place} → CommonStep t p q x y → Meets t (pair_number t p q) n x y p' q' → MeetsTwice t (suc n) p q p' q'
  twice_here {p = p} {q = q} s m = record {
    a = p;
    b = q;
    c = m.a;
    d = m.b;
    i = 0;
    j = m.j;
    k = m.k;
    before = stay;
    between = step s m.before;
    after = m.after;
    long = omega (arith, m.long);
    same = sym m.number;
  }

  twice_later : {n : ℕ} {p q x y p' q' : Place} → CommonStep t p q x y → MeetsTwice t n x y p' q' → MeetsTwice t (suc n) p q p' q'
  twice_later s m = record {
    a = m.a;
    b = m.b;
    c = m.c;
    d = m.d;
    i = suc m.i;
    j = m.j;
    k = m.k;
    before = step s m.before;
    between = m.between;
    after = m.after;
    long = omega (arith, m.long);
    same = m.same;
  }

  -- The number of pairs that the walk meets.
  met : {n : ℕ} {p q p' q' : Place} → Walk t n p q p' q' → ℕ
  met w = up_to (λ i. bit (visits t w i)) (pair_count t)

  met_first : {p q : Place} → Is t p → Is t q → 1 ≤ met (stay {p = p} {q = q})
  unfolding met visits
  met_first {p} {q} i j =
      let x = pair_number t p q in
      let l = up_to_more (λ i. 0) (λ i. bit (eqb i x)) (pair_count t) x (λ i. omega arith) (rw (eq-eqb x x refl) (omega arith)) (pair_below i j) in
      omega arith

  met-step : {n : ℕ} {p q x y p' q' : Place} → Is t p → Is t q → (s : CommonStep t p q x y) (w : Walk t n x y p' q') → visits t w (pair_number t p q) ≡ false
      → met w < met (step s w)
  unfolding met visits
  met-step {p = p} {q = q} i j s w e =
      let x = pair_number t p q in
      up_to_more (λ i. bit (visits t w i)) (λ i. bit (eqb i x || visits t w i)) (pair_count t) x (λ i. bit_or_lem (eqb i x) (visits t w i))
      (rw (e, eq-eqb x x refl) (omega arith)) (pair_below i j)

  counted_step : {n : ℕ} {p q x y p' q' : Place} → Is t p → Is t q → (s : CommonStep t p q x y) (w : Walk t n x y p' q') → (b : Bool)
      → visits t w (pair_number t p q) ≡ b → MeetsTwice t n x y p' q' ⊎ (suc n ≤ met w) → MeetsTwice t (suc n) p q p' q' ⊎ (suc (suc n) ≤ met (step s w))
  counted_step i j s w b e (inl m) = inl (twice_later s m)
  counted_step i j s w true e (inr l) = inl (twice_here s (meets w e))
  counted_step i j s w false e (inr l) = inr (omega (arith, met-step i j s w e))

  module _ (plain : Plain t) where
    counted : {n : ℕ} {p q p' q' : Place} → Is t p → Is t q → (w : Walk t n p q p' q') → MeetsTwice t n p q p' q' ⊎ (suc n ≤ met w)
    counted i j stay = inr (met_first i j)
    counted {p = p} {q = q} i j (step s w) =
        counted_step i j s w (visits t w (pair_number t p q)) refl (counted (step_is t plain i s.left) (step_is t plain j s.right) w)

    -- A walk meets some pair twice, or has fewer steps than there are unordered pairs.
    pub twice_or_short : {n : ℕ} {p q p' q' : Place} → Is t p → Is t q → Walk t n p q p' q' → MeetsTwice t n p q p' q' ⊎ (n < pair_count t)
    unfolding met
    twice_or_short {n} {p} {q} {p'} {q'} i j w = go (counted i j w)
      where
        go : MeetsTwice t n p q p' q' ⊎ (suc n ≤ met w) → MeetsTwice t n p q p' q' ⊎ (n < pair_count t)
        go (inl m) = inl m
        go (inr l) = inr (omega (arith, up_to_bits (λ i. bit (visits t w i)) (pair_count t) (λ i. bit_one (visits t w i))))
