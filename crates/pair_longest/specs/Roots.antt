-- The longest walk over all roots. The first pairs of words are taken row by row, and the greatest number of symbols so far is kept.
use Rattle.std.specs.Prelude.{◌≡◌, List, ℕ, suc, ◌+◌, ◌≤◌, ◌<◌}
use Rattle.std.proofs.Common.{add-one, arith, below_more}
use Rattle.pair_places.specs.Flat.{Laid, word_count, cell_count, first_node, pair_graph}
use Rattle.pair_places.specs.Roots.{Numbered, root_starts}
use Rattle.graph.specs.Graph.{WalkOf, Longest}
use Rattle.graph.specs.Heights.{longest}
use Rattle.graph.specs.Paths.{PathFrom, shorter, RootPath, walk_of_path}

-- Every path from the first pair of words u and w, if they have one, has fewer than b edges.
abbrev pub NoPath : List ℕ → ℕ → ℕ → ℕ → Type 0
NoPath f b u w = first_node f u w < cell_count f → PathFrom (pair_graph f) b (first_node f u w) → ⊥

-- Of the walks from the first pairs of the words before x, and of x and the words before y, the longest reads b symbols.
pub record Most (f : List ℕ) (x y b : ℕ) : Type 0 where
  pub some : (k : ℕ) → b ≡ suc k → WalkOf (pair_graph f) b
  pub rows : (u w : ℕ) → u < x → u < w → w < word_count f → NoPath f b u w
  pub row : (w : ℕ) → w < y → x < w → NoPath f b x w

module _ {f : List ℕ} where
  pub most_none : Most f 0 1 0
  most_none = record { some = λ k e. absurd (omega arith); rows = λ u w l. absurd (omega arith); row = λ w l m. absurd (omega arith) }

  -- The first pair of x and y has no longer walk.
  pub most_same : {x y b : ℕ} → Most f x y b → NoPath f b x y → Most f x (y + 1) b
  most_same {x} {y} {b} m n = record { some = m.some; rows = m.rows; row = below_more (λ w. x < w → NoPath f b x w) y m.row (λ _. n) }

  -- The first pair of x and y has a longer walk.
  pub most_more : {x y b : ℕ} (h : ℕ) → Most f x y b → b ≤ h → RootPath (pair_graph f) h → NoPath f (h + 1) x y → Most f x (y + 1) (h + 1)
  most_more {x} {y} {b} h m l p n =
      most_same
      (record {
        some = λ k e. rw (add-one h) (walk_of_path p);
        rows = λ u w a c d i q. m.rows u w a c d i (shorter b (omega arith) q);
        row = λ w a c i q. m.row w a c i (shorter b (omega arith) q);
      })
      n

  -- The row of x is done.
  pub most_row : {x y b : ℕ} → Most f x y b → word_count f ≤ y → Most f (x + 1) (x + 1 + 1) b
  most_row {x} {y} {b} m l =
      record {
        some = m.some;
        rows = λ u w a. below_more (λ i. i < w → w < word_count f → NoPath f b i w) x (λ i c. m.rows i w c) (λ c d. m.row w (omega arith) c) u a;
        row = λ w a c. absurd (omega arith);
      }

  -- All rows are done.
  pub most_all : {x y b : ℕ} → Laid f → Numbered f → Most f x y b → word_count f ≤ x → Longest (pair_graph f) b
  most_all {b = b} laid numbered m l =
      longest b m.some (λ v h r p.
      let s = root_starts laid numbered h r in
      m.rows s.x s.y (omega (arith, s.order, s.known)) s.order s.known (rw s.node h) (rw s.node p))
