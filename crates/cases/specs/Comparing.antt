-- Comparisons of lists that compute, and what they say in terms of the definitions.
use Rattle.std.specs.Prelude.{◌≡◌, refl, Bool, true, false, ◌&&◌, ◌||◌, List, [], ◌∷◌, ◌⊎◌, ℕ, ltb, eqb, length}
use Rattle.std.proofs.Common.{ap₂, inl, inr, ltb-true, eqb-true, eq-eqb}
use Rattle.std.proofs.lemmas.Bool.{false≢true}
use Rattle.std.proofs.Math.Bool.{and-eq-true_iff}
use Rattle.code.specs.Definitions.Orders.{Lex, short, less, same, Shortlex, earlier}
use Rattle.code.specs.Laws.Below.{or_cases}

unfoldable pub equal : List ℕ → List ℕ → Bool
equal [] [] = true
equal [] (y ∷ t) = false
equal (x ∷ s) [] = false
equal (x ∷ s) (y ∷ t) = eqb x y && equal s t

-- Lists that the comparison calls equal are equal.
pub equal-true : (s t : List ℕ) → equal s t ≡ true → s ≡ t
unfolding equal
equal-true [] [] e = refl
equal-true [] (y ∷ t) e = absurd (false≢true e)
equal-true (x ∷ s) [] e = absurd (false≢true e)
equal-true (x ∷ s) (y ∷ t) e = let h = (and-eq-true_iff (eqb x y) (equal s t)).0 e in ap₂ ◌∷◌ (eqb-true x y h.0) (equal-true s t h.1)

-- It calls every list equal to itself.
pub equal_same : (s : List ℕ) → equal s s ≡ true
unfolding equal
equal_same [] = refl
equal_same (x ∷ s) = (and-eq-true_iff (eqb x x) (equal s s)).1 (eq-eqb x x refl, equal_same s)

unfoldable pub before : List ℕ → List ℕ → Bool
before s [] = false
before [] (y ∷ t) = true
before (x ∷ s) (y ∷ t) = ltb x y || (eqb x y && before s t)

-- A list that is called earlier is earlier in dictionary order.
pub before-true : (s t : List ℕ) → before s t ≡ true → Lex s t
unfolding before
before-true s [] e = absurd (false≢true e)
before-true [] (y ∷ t) e = short
before-true (x ∷ s) (y ∷ t) e = by (before-true s t) (or_cases (ltb x y) (eqb x y && before s t) e)
  where
    by : (before s t ≡ true → Lex s t) → (ltb x y ≡ true) ⊎ ((eqb x y && before s t) ≡ true) → Lex (x ∷ s) (y ∷ t)
    by ih (inl h) = less (ltb-true x y h)
    by ih (inr h) = let k = (and-eq-true_iff (eqb x y) (before s t)).0 h in same (eqb-true x y k.0) (ih k.1)

-- t is s, or is as long and comes after s in dictionary order
unfoldable pub not_before : List ℕ → List ℕ → Bool
unfolding equal before
not_before s t = equal s t || (eqb (length s) (length t) && before s t)

-- Such a list is the same, or comes after s in order of length and then of entries.
pub not_before_true : (s t : List ℕ) → not_before s t ≡ true → (s ≡ t) ⊎ Shortlex s t
unfolding not_before
not_before_true s t e = by (or_cases (equal s t) (eqb (length s) (length t) && before s t) e)
  where
    by : (equal s t ≡ true) ⊎ ((eqb (length s) (length t) && before s t) ≡ true) → (s ≡ t) ⊎ Shortlex s t
    by (inl h) = inl (equal-true s t h)
    by (inr h) = let k = (and-eq-true_iff (eqb (length s) (length t)) (before s t)).0 h in inr (earlier (eqb-true _ _ k.0) (before-true s t k.1))
