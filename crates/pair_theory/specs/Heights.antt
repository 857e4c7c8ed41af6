-- The height of a pair is the number of common steps that lead it on at most. Heights come from the heights of the next pairs, the longest path from
-- the heights of the first pairs; and a pair that comes back to itself is led on without end.
use Rattle.std.specs.Prelude.{◌≡◌, List, ℕ, zero, suc, ◌+◌, ◌-◌, ◌≤◌, length}
use Rattle.std.proofs.Common.{arith}
use Rattle.code.specs.Definitions.Tables.{Table}
use Rattle.code.specs.Definitions.Delays.{WithoutBound}
use Rattle.pair_theory.specs.Places.{Place, Plain, Parting, Compatible, FirstPair, CommonStep, PairAfter, LongestPath}
use Rattle.pair_theory.specs.Pairs.{compatible_long}
use Rattle.pair_theory.specs.Sharing.{without_bound_lem}
use Rattle.pair_theory.specs.Walks.{Walk, stay, step, Further, walk_cast, walk_swap, walk_append, walk_cut, compatible_from, pair_iff, further_step}

module _ (t : Table) where
  -- h common steps lead the pair on, and no more.
  pub record Height (p q : Place) (h : ℕ) : Type 0 where
    pub reached : Further t h p q
    pub most : (n : ℕ) → Further t n p q → n ≤ h

  -- The pair has a height, h at most.
  pub record HeightAtMost (p q : Place) (h : ℕ) : Type 0 where
    pub n : ℕ
    pub height : Height p q n
    pub below : n ≤ h

  -- A next pair of p, q has height h, and the others have no greater one.
  pub record LargestNext (p q : Place) (h : ℕ) : Type 0 where
    pub p' : Place
    pub q' : Place
    pub next : CommonStep t p q p' q'
    pub height : Height p' q' h
    pub others : (a b : Place) → CommonStep t p q a b → HeightAtMost a b h

  -- A first pair has height h, and the others have no greater one.
  pub record LargestFirst (h : ℕ) : Type 0 where
    pub p : Place
    pub q : Place
    pub first : FirstPair t (Parting t) p q
    pub height : Height p q h
    pub others : (a b : Place) → FirstPair t (Parting t) a b → HeightAtMost a b h

  -- At least one common step leads the pair back to itself; the order of its places does not matter.
  pub data Cycle (p q : Place) : Type 0 where
    same : {n : ℕ} → Walk t (suc n) p q p q → Cycle p q
    swapped : {n : ℕ} → Walk t (suc n) p q q p → Cycle p q

module _ {t : Table} where
  -- A pair has at most one height.
  pub height_unique : {p q : Place} {h k : ℕ} → Height t p q h → Height t p q k → h ≡ k
  height_unique {h = h} {k = k} a b = omega (arith, a.most k b.reached, b.most h a.reached)

  most_none : {p q : Place} → ((a b : Place) → CommonStep t p q a b → ⊥) → {n : ℕ} {p' q' : Place} → Walk t n p q p' q' → n ≤ 0
  most_none f stay = omega arith
  most_none f (step {a = a} {b = b} s w) = absurd (f a b s)

  -- A pair that nothing leads on has height 0.
  pub height_none : {p q : Place} → ((a b : Place) → CommonStep t p q a b → ⊥) → Height t p q 0
  height_none {p} {q} f = record { reached = record { p' = p; q' = q; walk = stay }; most = λ n w. most_none f w.walk }

  at_most_walk : {a b p' q' : Place} {n h : ℕ} → HeightAtMost t a b h → Walk t n a b p' q' → n ≤ h
  at_most_walk {p' = p'} {q' = q'} {n = n} z w = let l = z.height.most n (record { p' = p'; q' = q'; walk = w }) in omega (arith, l, z.below)

  most_next : {p q : Place} {h : ℕ} → ((a b : Place) → CommonStep t p q a b → HeightAtMost t a b h) → {n : ℕ} {p' q' : Place} → Walk t n p q p' q' → n ≤ suc h
  most_next f stay = omega arith
  most_next f (step {a = a} {b = b} s w) = omega (arith, at_most_walk (f a b s) w)

  -- The height of another pair is one more than the largest height of a next pair.
  pub height_next : {p q : Place} {h : ℕ} → LargestNext t p q h → Height t p q (suc h)
  height_next l = record { reached = further_step l.next l.height.reached; most = λ n w. most_next l.others w.walk }

  most_first : {h : ℕ} → ((a b : Place) → FirstPair t (Parting t) a b → HeightAtMost t a b h) → (k : ℕ) → PairAfter t k → k ≤ suc h
  most_first f zero a = omega arith
  most_first f (suc n) a = let z = pair_iff.0 a in omega (arith, at_most_walk (f z.p z.q z.first) z.further.walk)

  -- Without a first pair the longest path has no step.
  pub longest_none : ((p q : Place) → FirstPair t (Parting t) p q → ⊥) → LongestPath t 0
  longest_none f = record { some = λ k e. absurd (omega arith); most = go }
    where
      go : (k : ℕ) → PairAfter t k → k ≤ 0
      go zero a = omega arith
      go (suc n) a = let z = pair_iff.0 a in absurd (f z.p z.q z.first)

  -- Else the longest path has one step more than the largest height of a first pair.
  pub longest_first : {h : ℕ} → LargestFirst t h → LongestPath t (suc h)
  longest_first l = record {
    some = λ k e. pair_iff.1 (record { p = l.p; q = l.q; first = l.first; further = l.height.reached });
    most = most_first l.others;
  }

  around_step : {n k : ℕ} {p q : Place} → Walk t (suc n) p q p q → Further t k p q → Further t (suc k) p q
  around_step {k = k} c f = walk_cut (walk_append c f.walk) (suc k) (omega arith)

  around : {n : ℕ} {p q : Place} → Walk t (suc n) p q p q → (k : ℕ) → Further t k p q
  around {p = p} {q = q} c zero = record { p' = p; q' = q; walk = stay }
  around c (suc k) = around_step c (around c k)

  twice : {n : ℕ} {p q : Place} → Walk t (suc n) p q q p → Walk t (suc (n + suc n)) p q p q
  twice w = walk_cast (omega arith) (walk_append w (walk_swap w))

  -- A cycle leads its pair on by every number of common steps.
  pub cycle_further : {p q : Place} → Cycle t p q → (k : ℕ) → Further t k p q
  cycle_further (same w) k = around w k
  cycle_further (swapped w) k = around (twice w) k

  -- From a cycle of a compatible pair every number of symbols, at least one, reaches a compatible pair.
  pub cycle_pairs : {m : List ℕ} {p q : Place} → Compatible t (Parting t) m p q → Cycle t p q → (k : ℕ) → PairAfter t (suc k)
  cycle_pairs {m} h c k =
      let n = length m - 1 in
      let a = compatible_from {n = n} h (omega (arith, compatible_long h)) in
      let f = cycle_further c k in
      pair_iff.1 (record { p = a.a; q = a.b; first = a.first; further = walk_cut (walk_append a.walk f.walk) k (omega arith) })

  -- A cycle of a compatible pair: the code is without bound.
  pub cycle_without_bound : Plain t → {m : List ℕ} {p q : Place} → Compatible t (Parting t) m p q → Cycle t p q → WithoutBound t
  cycle_without_bound plain h c = without_bound_lem plain (cycle_pairs h c)
