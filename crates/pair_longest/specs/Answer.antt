-- What an answer of the search means: a number of which something holds, or that the walks have no bound.
use Rattle.std.specs.Prelude.{◌≡◌, Option, Some, None, List, ℕ}
use Rattle.std.proofs.Common.{arith}
use Rattle.pair_places.specs.Flat.{pair_graph}
use Rattle.graph.specs.Graph.{Endless}

pub data Answer (f : List ℕ) (P : ℕ → Type 0) : Option ℕ → Type 0 where
  finite : {n : ℕ} → P n → Answer f P (Some n)
  unbounded : Endless (pair_graph f) → Answer f P None

pub was_finite : {f : List ℕ} {P : ℕ → Type 0} {t : Option ℕ} {n : ℕ} → Answer f P t → t ≡ Some n → P n
was_finite {P = P} {n = n} (finite {n = m} p) q = let z : m ≡ n = cc in rw z at p
was_finite (unbounded u) q = let z : ◌≡◌ {A = ℕ} 0 1 = cc in absurd (omega arith)

pub was_unbounded : {f : List ℕ} {P Q : ℕ → Type 0} {t : Option ℕ} → Answer f P t → t ≡ None → Answer f Q None
was_unbounded (finite p) q = let z : ◌≡◌ {A = ℕ} 0 1 = cc in absurd (omega arith)
was_unbounded (unbounded u) q = unbounded u
