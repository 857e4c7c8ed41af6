-- What searches of graphs of pairs find out about the table: whether it is ambiguous and by which message, or its delay. A graph need not go on from its
-- goals: what it leaves out comes after a goal that fewer symbols reach.
use Rattle.std.specs.Prelude.{◌≡◌, refl, true, List, ◌⊎◌, ℕ, suc, ◌<◌, length}
use Rattle.std.proofs.Common.{subst, inl, inr, arith}
use Rattle.code.specs.Definitions.Tables.{Table}
use Rattle.code.specs.Definitions.Orders.{Shortlex, shorter}
use Rattle.code.specs.Definitions.Readings.{TwoReadings, Decipherable}
use Rattle.code.specs.Definitions.Delays.{Delay, WithoutBound}
use Rattle.graph.specs.Goals.{GoalBy, GoalBefore, NoGoal, LeastGoal}
use Rattle.graph.specs.Graph.{Graph, Reach, WalkOf, Longest, Endless}
pub use Rattle.pair_theory.specs.Places.{BothEnd, ApartEnds}
use Rattle.pair_theory.specs.Places.{Place, Plain, Parting, Beginning, Compatible, TwoEnds, NoTwoEnds, PairAfter, LongestPath}
use Rattle.pair_theory.specs.Ambiguity.{LeastTwoEnds, at_most, least_message, decipherable, parting_ends}
use Rattle.pair_theory.specs.Sharing.{SomeParting, delay, without_bound_lem}

-- The first pairs of the graph are those of S, its goals those of E.
module _ (t : Table) (S : ℕ → ℕ → Type 0) (E : Place → Place → Type 0) (g : Graph) where
  -- The compatible pair that m reaches where a walk over m ends at v; if v is a goal, one of E.
  pub record PairAt (m : List ℕ) (v : ℕ) : Type 0 where
    pub p : Place
    pub q : Place
    pub pair : Compatible t S m p q
    pub ends : g.goal v ≡ true → E p q

  -- A walk that reads m, to a node that is a goal if p and q are of E.
  pub record WalkTo (m : List ℕ) (p q : Place) : Type 0 where
    pub v : ℕ
    pub walk : Reach g m v
    pub goal : E p q → g.goal v ≡ true

  -- The walks of the graph are the compatible pairs of the table, as far as the first goals.
  pub record Shows : Type 0 where
    pub pairs : {m : List ℕ} {v : ℕ} → Reach g m v → PairAt m v
    pub walks : {m : List ℕ} {p q : Place} → Compatible t S m p q → WalkTo m p q ⊎ GoalBefore g m

-- A goal by the symbols m, or by fewer.
pub record GoalWithin (g : Graph) (m : List ℕ) : Type 0 where
  pub n : List ℕ
  pub goal : GoalBy g n
  pub order : (n ≡ m) ⊎ (length n < length m)

-- The goals of the graph are two ends, and two ends mean a goal that no more symbols reach.
pub record Finds (t : Table) (g : Graph) : Type 0 where
  pub ends : {m : List ℕ} → GoalBy g m → TwoEnds t m
  pub goal : {m : List ℕ} → TwoEnds t m → GoalWithin g m

-- The graph of the pairs from the beginnings on, openings included, finds them.
module _ {t : Table} {g : Graph} (shows : Shows t (Beginning t) (ApartEnds t) g) where
  goal→ends : {m : List ℕ} → GoalBy g m → TwoEnds t m
  goal→ends h =
      let a = shows.pairs h.walk in
      let e = a.ends h.met in
      record { p = a.p; q = a.q; pair = a.pair; left_ends = e.left; right_ends = e.right; apart = e.apart }

  ends→goal : {m : List ℕ} → TwoEnds t m → GoalWithin g m
  ends→goal {m} h = by (shows.walks h.pair)
    where
      by : WalkTo t (Beginning t) (ApartEnds t) g m h.p h.q ⊎ GoalBefore g m → GoalWithin g m
      by (inl w) = record {
        n = m;
        goal = record { v = w.v; walk = w.walk; met = w.goal (record { left = h.left_ends; right = h.right_ends; apart = h.apart }) };
        order = inl refl;
      }
      by (inr b) = record { n = b.n; goal = b.goal; order = inr b.before }

  pub shows_finds : Finds t g
  shows_finds = record { ends = goal→ends; goal = ends→goal }

module _ {t : Table} {g : Graph} (finds : Finds t g) where
  -- Where no walk leads to a goal no two ends are reached.
  no_goal : NoGoal g → NoTwoEnds t
  no_goal none m h = let w = finds.goal h in none w.n w.goal

  -- The least symbols of a walk to a goal are the least that reach two ends.
  pub least_goal : {m : List ℕ} → LeastGoal g m → LeastTwoEnds t m
  least_goal {m} l = record { ends = finds.ends l.goal; least = λ n h. by n (finds.goal h) }
    where
      by : (n : List ℕ) → GoalWithin g n → (m ≡ n) ⊎ Shortlex m n
      by n w = go (l.least w.n w.goal) w.order
        where
          go : (m ≡ w.n) ⊎ Shortlex m w.n → (w.n ≡ n) ⊎ (length w.n < length n) → (m ≡ n) ⊎ Shortlex m n
          go c (inl e) = subst (λ (k : List ℕ). (m ≡ k) ⊎ Shortlex m k) e c
          go c (inr k) = inr (shorter (omega (arith, at_most m w.n c)))

  module _ (plain : Plain t) where
    -- The least symbols of a walk to a goal come before every other message with two readings.
    pub search_least : {m : List ℕ} → LeastGoal g m → (n : List ℕ) → TwoReadings t n → (n ≡ m → ⊥) → Shortlex m n
    search_least l = least_message plain (least_goal l)

    -- Where no walk leads to a goal the code is decipherable.
    pub search_decipherable : NoGoal g → Decipherable t
    search_decipherable none = decipherable plain (no_goal none)

-- The graph of the pairs from rivals on: the delay of a decipherable code.
module _ {t : Table} {g : Graph} (shows : Shows t (Parting t) (BothEnd t) g) (plain : Plain t) where
  walk→pair : {k : ℕ} → WalkOf g k → PairAfter t k
  walk→pair h = let a = shows.pairs h.walk in record { m = h.symbols; p = a.p; q = a.q; pair = a.pair; long = h.long }

  -- And a code with walks of every length is without bound.
  pub search_without_bound : Endless g → WithoutBound t
  search_without_bound e = without_bound_lem plain (λ k. walk→pair (e k))

  module _ (d : Decipherable t) where
    no_ends : (m : List ℕ) → GoalBy g m → ⊥
    no_ends m h =
        let a = shows.pairs h.walk in
        let e = a.ends h.met in
        parting_ends plain d a.pair e.left e.right

    pair→walk : {k : ℕ} → PairAfter t k → WalkOf g k
    pair→walk {k} h = by (shows.walks h.pair)
      where
        by : WalkTo t (Parting t) (BothEnd t) g h.m h.p h.q ⊎ GoalBefore g h.m → WalkOf g k
        by (inl w) = record { symbols = h.m; end = w.v; walk = w.walk; long = h.long }
        by (inr b) = absurd (no_ends b.n b.goal)

    -- The longest walk of the graph is the longest path of pairs.
    pub longest_walk : {r : ℕ} → Longest g r → LongestPath t r
    longest_walk l = record { some = λ k e. walk→pair (l.some k e); most = λ k h. l.most k (pair→walk h) }

    -- The delay of a code in which two words part is one more than the longest walk.
    pub search_delay : SomeParting t → {r : ℕ} → Longest g r → Delay t (suc r)
    search_delay h l = delay plain d h (longest_walk l)
