-- The number of unordered pairs bounds the number of symbols. A walk to two ends that meets a pair twice is cut short there; a walk that meets a pair
-- twice goes round a cycle, so a longest path meets none twice.
use Rattle.std.specs.Prelude.{◌≡◌, refl, List, ◌⊎◌, ℕ, zero, suc, ◌-◌, ◌≤◌, ◌<◌, length}
use Rattle.std.proofs.Common.{sym, subst, subst₂, inl, inr, arith}
use Rattle.std.proofs.Math.Decide.{dec_le}
use Rattle.code.specs.Definitions.Tables.{Table}
use Rattle.code.specs.Definitions.Delays.{Delay}
use Rattle.code.specs.Definitions.Readings.{Decipherable}
use Rattle.pair_theory.specs.Places.{Place, Plain, Is, BothEnd, ApartEnds, Parting, Compatible, FirstPair, TwoEnds, PairAfter, LongestPath}
use Rattle.pair_theory.specs.Paths.{first_is, step_is}
use Rattle.pair_theory.specs.Pairs.{compatible_reached, compatible_long}
use Rattle.pair_theory.specs.Ambiguity.{LeastTwoEnds, at_most}
use Rattle.pair_theory.specs.Partings.{PartingEnds}
use Rattle.pair_theory.specs.Sharing.{share→pair, without_bound_lem}
use Rattle.pair_theory.specs.Walks.{Walk, stay, step, FromFirst, walk_append, walk_swap, walk_cut, compatible_from, from_reached, pair_iff}
use Rattle.pair_theory.specs.Heights.{Cycle, same, swapped, cycle_further}
use Rattle.pair_theory.specs.Finite.{pair_count, pair_unique}
use Rattle.pair_theory.specs.Repeats.{MeetsTwice, twice_or_short}

module _ (t : Table) (S : ℕ → ℕ → Type 0) (E : Place → Place → Type 0) where
  -- n common steps lead from a first pair to a pair of E.
  record MeetsAfter (n : ℕ) : Type 0 where
    p : Place
    q : Place
    from : FromFirst t S n p q
    meets : E p q

  -- Fewer than n common steps do.
  record Fewer (n : ℕ) : Type 0 where
    k : ℕ
    after : MeetsAfter k
    less : k < n

  -- Symbols that reach a pair of E, at most as many as there are unordered pairs.
  pub record ShortPair : Type 0 where
    pub m : List ℕ
    pub p : Place
    pub q : Place
    pub pair : Compatible t S m p q
    pub meets : E p q
    pub short : length m ≤ pair_count t

module _ (t : Table) where
  -- Symbols that reach two ends, at most as many as there are unordered pairs.
  pub record ShortEnds : Type 0 where
    pub m : List ℕ
    pub ends : TwoEnds t m
    pub short : length m ≤ pair_count t

module _ {t : Table} (plain : Plain t) where
  first_is_left : {S : ℕ → ℕ → Type 0} {p q : Place} → FirstPair t S p q → Is t p
  first_is_left f = subst (Is t) (sym f.left) (first_is t plain f.x f.left_known)

  first_is_right : {S : ℕ → ℕ → Type 0} {p q : Place} → FirstPair t S p q → Is t q
  first_is_right f = subst (Is t) (sym f.right) (first_is t plain f.y f.right_known)

  walk_is : {n : ℕ} {p q a b : Place} → Is t p → Is t q → Walk t n p q a b → Is t a × Is t b
  walk_is i j stay = (i, j)
  walk_is i j (step s w) = walk_is (step_is t plain i s.left) (step_is t plain j s.right) w

  -- The pair that is met twice is the same both times, but for the order of its places.
  twice_same : {n : ℕ} {p q p' q' : Place} → Is t p → Is t q → (m : MeetsTwice t n p q p' q')
      → ((m.a ≡ m.c) × (m.b ≡ m.d)) ⊎ ((m.a ≡ m.d) × (m.b ≡ m.c))
  twice_same i j m =
      let a = walk_is i j m.before in
      let c = walk_is a.0 a.1 m.between in
      pair_unique a.0 a.1 c.0 c.1 m.same

  walk_from : {n : ℕ} {p q a b p' q' : Place} → a ≡ p → b ≡ q → Walk t n p q p' q' → Walk t n a b p' q'
  walk_from {n} {p' = p'} {q' = q'} e f w = subst₂ (λ (x y : Place). Walk t n x y p' q') (sym e) (sym f) w

  module _ {S : ℕ → ℕ → Type 0} {E : Place → Place → Type 0} (turn : (p q : Place) → E p q → E q p) where
    fewer : {n k : ℕ} {a b p q : Place} → FirstPair t S a b → E p q → Walk t k a b p q → k < n → Fewer t S E n
    fewer {k = k} {a = a} {b = b} {p = p} {q = q} f e w l =
        record { k = k; after = record { p = p; q = q; from = record { a = a; b = b; first = f; walk = w }; meets = e }; less = l }

    -- What stands between the two times that a pair is met is left out.
    cut : {n : ℕ} {a b p q : Place} → FirstPair t S a b → E p q → (m : MeetsTwice t n a b p q)
        → ((m.a ≡ m.c) × (m.b ≡ m.d)) ⊎ ((m.a ≡ m.d) × (m.b ≡ m.c)) → Fewer t S E n
    cut f e m (inl h) = fewer f e (walk_append m.before (walk_from h.0 h.1 m.after)) (omega (arith, m.long))
    cut {p = p} {q = q} f e m (inr h) = fewer f (turn p q e) (walk_append m.before (walk_from h.0 h.1 (walk_swap m.after))) (omega (arith, m.long))

    short_enough : {n : ℕ} → MeetsAfter t S E n → n < pair_count t → ShortPair t S E
    short_enough h l =
        let r = from_reached h.from in
        record { m = r.m; p = h.p; q = h.q; pair = compatible_reached.1 r.reached; meets = h.meets; short = omega (arith, r.long) }

    shorten_step : {n : ℕ} → ((k : ℕ) → k < n → MeetsAfter t S E k → ShortPair t S E) → MeetsAfter t S E n → ShortPair t S E
    shorten_step {n} ih h =
        let i = first_is_left h.from.first in
        let j = first_is_right h.from.first in
        go i j (twice_or_short plain i j h.from.walk)
      where
        go : Is t h.from.a → Is t h.from.b → MeetsTwice t n h.from.a h.from.b h.p h.q ⊎ (n < pair_count t) → ShortPair t S E
        go i j (inl m) = let z = cut h.from.first h.meets m (twice_same i j m) in ih z.k z.less z.after
        go i j (inr l) = short_enough h l

    -- Walks to a pair of E are cut until they meet no pair twice.
    shorten : (N n : ℕ) → n < N → MeetsAfter t S E n → ShortPair t S E
    shorten zero n l h = absurd (omega arith)
    shorten (suc N) n l h = shorten_step (λ k g. shorten N k (omega arith)) h

    -- If a pair of E is compatible, then one is reached by at most as many symbols as there are unordered pairs of places.
    short_pair : {m : List ℕ} {p q : Place} → Compatible t S m p q → E p q → ShortPair t S E
    short_pair {m} {p} {q} h e =
        let n = length m - 1 in
        let f = compatible_from {n = n} h (omega (arith, compatible_long h)) in
        shorten (suc n) n (omega arith) (record { p = p; q = q; from = f; meets = e })

  -- So it is where paths from two beginnings lead to the ends of different words,
  pub short_ends : {m : List ℕ} → TwoEnds t m → ShortEnds t
  short_ends h =
      let apart : ApartEnds t h.p h.q = record { left = h.left_ends; right = h.right_ends; apart = h.apart } in
      let s = short_pair {E = ApartEnds t} (λ p q e. record { left = e.right; right = e.left; apart = λ z. e.apart (sym z) }) h.pair apart in
      let e = s.meets in
      record { m = s.m; ends = record { p = s.p; q = s.q; pair = s.pair; left_ends = e.left; right_ends = e.right; apart = e.apart }; short = s.short }

  -- and where paths from two rivals lead to two ends.
  pub short_parting_ends : PartingEnds t → ShortPair t (Parting t) (BothEnd t)
  short_parting_ends h =
      short_pair {E = BothEnd t} (λ p q e. record { left = e.right; right = e.left }) h.pair (record { left = h.left_ends; right = h.right_ends })

  came_back : {j : ℕ} {a b c d : Place} → Walk t (suc j) a b c d → ((a ≡ c) × (b ≡ d)) ⊎ ((a ≡ d) × (b ≡ c)) → Cycle t a b
  came_back {j} {a} {b} w (inl h) = same (subst₂ (λ (x y : Place). Walk t (suc j) a b x y) (sym h.0) (sym h.1) w)
  came_back {j} {a} {b} w (inr h) = swapped (subst₂ (λ (x y : Place). Walk t (suc j) a b x y) (sym h.1) (sym h.0) w)

  -- A walk that meets a pair twice goes round a cycle.
  round : {n : ℕ} {p q p' q' : Place} → FirstPair t (Parting t) p q → MeetsTwice t n p q p' q' → (k : ℕ) → PairAfter t (suc k)
  round {p = p} {q = q} f m k =
      let c = came_back m.between (twice_same (first_is_left f) (first_is_right f) m) in
      let w = (cycle_further c k).walk in
      pair_iff.1 (record { p = p; q = q; first = f; further = walk_cut (walk_append m.before w) k (omega arith) })

  -- If more symbols than there are unordered pairs reach a compatible pair, then every number of symbols does.
  pub endless : {n : ℕ} → pair_count t ≤ n → PairAfter t (suc n) → (k : ℕ) → PairAfter t (suc k)
  endless {n} l h k =
      let z = pair_iff.0 h in
      go z.first (twice_or_short plain (first_is_left z.first) (first_is_right z.first) z.further.walk)
    where
      go : {p q p' q' : Place} → FirstPair t (Parting t) p q → MeetsTwice t n p q p' q' ⊎ (n < pair_count t) → PairAfter t (suc k)
      go f (inl m) = round f m k
      go f (inr s) = absurd (omega arith)

  -- The longest path has at most as many steps as there are unordered pairs.
  pub longest_short : (r : ℕ) → LongestPath t r → r ≤ pair_count t
  longest_short zero l = omega arith
  longest_short (suc n) l = go (dec_le (pair_count t) n)
    where
      go : Dec (pair_count t ≤ n) → suc n ≤ pair_count t
      go (yes h) = absurd (omega (arith, l.most (suc (suc n)) (endless h (l.some n refl) (suc n))))
      go (no h) = omega arith

  -- The least symbols that reach two ends are at most as many as there are unordered pairs.
  pub least_short : {m : List ℕ} → LeastTwoEnds t m → length m ≤ pair_count t
  least_short {m} h = let s = short_ends h.ends in omega (arith, s.short, at_most m s.m (h.least s.m s.ends))

  delay_needs : {M : ℕ} → Decipherable t → Delay t (suc M) → Dec (M ≤ pair_count t) → M ≤ pair_count t
  delay_needs none d (yes l) = l
  delay_needs {M} none d (no l) =
      let n = M - 1 in
      let e : M ≡ suc n = omega arith in
      let h = subst (PairAfter t) e (share→pair plain none (omega arith) (d.needed M refl)) in
      absurd (d.enough (without_bound_lem plain (endless {n = n} (omega arith) h) (suc M)))

  -- 01: "Delays therefore run from 0 to 8,257 at most."
  pub delay_short : (N : ℕ) → Decipherable t → Delay t N → N ≤ suc (pair_count t)
  delay_short zero none d = omega arith
  delay_short (suc M) none d = omega (arith, delay_needs none d (dec_le M (pair_count t)))
