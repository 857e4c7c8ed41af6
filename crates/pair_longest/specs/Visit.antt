-- The searches from all first pairs, one after the other: what the functions promise, and a lemma for each way through them.
use Rattle.std.specs.Prelude.{◌≡◌, Option, Some, List, ℕ, suc, ◌+◌, ◌≤◌, ◌<◌, max, length}
use Rattle.std.proofs.Common.{sym, arith}
use Rattle.std.proofs.Math.Decide.{dec_lt}
use Rattle.code.specs.Definitions.Sheets.{limits}
use Rattle.pair_places.specs.declared.Pair.{Pair}
use Rattle.pair_places.specs.Flat.{Laid, word_count, place_count, cell_count, pair_count, first_node, pair_graph}
use Rattle.pair_places.specs.Nodes.{cell_outside}
use Rattle.pair_places.specs.Roots.{Numbered, starts_root}
use Rattle.pair_places.specs.Steps.{pair_cell, Arrives}
use Rattle.graph.specs.Paths.{shorter, RootPath}
use Rattle.pair_storage.specs.Stores.{Marked}
use Rattle.pair_longest.specs.Answer.{Answer, finite, was_finite}
use Rattle.pair_heights.specs.State.{Idle}
use Rattle.pair_longest.specs.Bound.{pairs_few}
use Rattle.pair_longest.specs.Explore.{AtRoot, marked_node, Explored}
use Rattle.pair_longest.specs.Roots.{NoPath, Most, most_same, most_more, most_row}

-- The first pairs of the words before x, and of x and the words before y, are counted. No search is under way.
pub record Counting (f xs : List ℕ) (x y b : ℕ) : Type 0 where
  pub laid : Laid f
  pub numbered : Numbered f
  pub idle : Idle (pair_graph f) xs
  pub most : Most f x y b
  pub low : b ≤ pair_count f

-- The first pair of words x and y comes next.
pub record Visiting (f xs sk : List ℕ) (x y b : ℕ) : Type 0 where
  pub counting : Counting f xs x y b
  pub order : x < y
  pub known : y < word_count f
  pub small : y < limits.words
  pub wide : cell_count f ≤ length sk

pub visiting : {f xs : List ℕ} (sk : List ℕ) {x y b n : ℕ}
    → Counting f xs x y b → x < y → y < n → n ≡ word_count f → n ≤ limits.words → cell_count f ≤ length sk → Visiting f xs sk x y b
visiting sk c o k e l w = record { counting = c; order = o; known = omega arith; small = omega arith; wide = w }

module _ {f xs sk : List ℕ} {x y b m : ℕ} {p : Pair} (s : Visiting f xs sk x y b) (a : Arrives f (first_node f x y) p) (count : m ≡ place_count f) where
  -- The walks from the first pair of x and y are no longer than those before.
  same : {xs' : List ℕ} → Idle (pair_graph f) xs' → NoPath f b x y → Answer f (Counting f xs' x (y + 1)) (Some b)
  same i n = let c = s.counting in finite (record { laid = c.laid; numbered = c.numbered; idle = i; most = most_same c.most n; low = c.low })

  -- The words have no first pair.
  pub visit_nowhere : m ≤ p.low → Answer f (Counting f xs x (y + 1)) (Some b)
  visit_nowhere l = same s.counting.idle (λ n. absurd (omega (arith, a.node, cell_outside f p.low p.high (omega arith))))

  module _ (l : p.low < m) where
    marked : Marked f xs p
    marked = record { laid = s.counting.laid; size = s.counting.idle.marks.size; low = omega arith; high = a.high }

    pub visit_root : AtRoot f xs sk p
    visit_root =
        let c = s.counting in
        record {
          pair = marked;
          idle = c.idle;
          root = starts_root c.laid c.numbered (marked_node p marked) record { x = x; y = y; order = s.order; known = s.known; node = sym a.node };
          wide = s.wide;
        }

    -- A path from the first pair of x and y has fewer edges than the longest walk from there reads symbols.
    explored_none : {xs' : List ℕ} {n k : ℕ} → Explored f (pair_cell f p) xs' n → n ≤ k → NoPath f k x y
    explored_none t h i q = t.height.none (shorter (suc t.edges) (omega (arith, t.more)) (rw (← a.node) at q))

    pub visit_lower : {xs' : List ℕ} {n : ℕ} {t : Option ℕ} → Answer f (Explored f (pair_cell f p) xs') t → t ≡ Some n → n ≤ b
        → Answer f (Counting f xs' x (y + 1)) (Some b)
    visit_lower t q h = let d = was_finite t q in same d.idle (explored_none d h)

    -- They are longer.
    pub visit_higher : {xs' : List ℕ} {n : ℕ} {t : Option ℕ} → Answer f (Explored f (pair_cell f p) xs') t → t ≡ Some n → b < n
        → Answer f (Counting f xs' x (y + 1)) (Some n)
    visit_higher {n = n} t q h =
        let c = s.counting in
        let d = was_finite t q in
        let r = visit_root in
        let path : RootPath (pair_graph f) d.edges = record { node = pair_cell f p; inside = marked_node p marked; root = r.root; path = d.height.some } in
        finite {n = n}
        record {
          laid = c.laid;
          numbered = c.numbered;
          idle = d.idle;
          most = rw d.more (most_more d.edges c.most (omega (arith, d.more)) path (explored_none d (omega (arith, d.more))));
          low = omega (arith, d.low, pairs_few c.laid c.numbered d.idle.marks);
        }

    -- The greater of both counts.
    pub visit_more : {xs' : List ℕ} {n m : ℕ} {t : Option ℕ} → Answer f (Explored f (pair_cell f p) xs') t → t ≡ Some n → m ≡ max b n
        → Answer f (Counting f xs' x (y + 1)) (Some m)
    visit_more {xs'} {n} {m} t q e = go (dec_lt b n)
      where
        go : Dec (b < n) → Answer f (Counting f xs' x (y + 1)) (Some m)
        go (yes h) = let z : m ≡ n = omega arith in rw z (visit_higher t q h)
        go (no h) = let z : m ≡ b = omega arith in rw z (visit_lower t q (omega arith))

pub counted : {f xs : List ℕ} {x y b : ℕ} {t : Option ℕ} → Answer f (Counting f xs x y) t → t ≡ Some b → Counting f xs x y b
counted a q = was_finite a q

-- The row of x is done.
pub row_end : {f xs : List ℕ} {x y b n : ℕ} → Counting f xs x y b → n ≡ word_count f → n ≤ y → Answer f (Counting f xs (x + 1) (x + 1 + 1)) (Some b)
row_end c e l = finite (record { laid = c.laid; numbered = c.numbered; idle = c.idle; most = most_row c.most (omega arith); low = c.low })
