-- Lists of numbers as rows of cells: what holds of every cell after one store, and sums over the cells.
use Rattle.std.specs.Prelude.{◌≡◌, refl, List, [], ◌∷◌, ℕ, zero, suc, ◌+◌, ◌≤◌, ◌<◌, length, get_or, set, replicate}
use Rattle.std.proofs.Common.{zero-le, le_of_suc-le-suc, arith, get_or-set_same, get_or-set_other}
use Rattle.std.proofs.Math.Decide.{ℕ_discrete, dec_lt}
use Rattle.std.proofs.Math.ListN.{get_or-eq_default}

-- What holds of the value stored, and of every other cell before the store, holds of every cell after it.
pub on_set : (xs : List ℕ) (i y : ℕ) → i < length xs → (P : ℕ → ℕ → Type 0) → P i y → ((j : ℕ) → (j ≡ i → ⊥) → P j (get_or xs j 0))
    → (j : ℕ) → P j (get_or (set xs i y) j 0)
on_set xs i y h P new old j = go (ℕ_discrete j i)
  where
    go : Dec (j ≡ i) → P j (get_or (set xs i y) j 0)
    go (yes e) = rw e (rw (get_or-set_same xs i y 0 h) new)
    go (no ne) = rw (get_or-set_other xs i j y 0 ne) (old j ne)

-- What holds of the value stored in cell n, and of the cells below it, holds of all up to n.
pub on_push : (xs : List ℕ) (n y : ℕ) → n < length xs → (P : ℕ → ℕ → Type 0) → P n y → ((i : ℕ) → i < n → P i (get_or xs i 0))
    → (i : ℕ) → i < n + 1 → P i (get_or (set xs n y) i 0)
on_push xs n y h P new old = on_set xs n y h (λ i x. i < n + 1 → P i x) (λ _. new) (λ i ne l. old i (omega arith))

-- Every cell of a list of zeros is 0, also past its end.
pub zeros : (n i : ℕ) → ◌≡◌ {A = ℕ} (get_or (replicate n 0) i 0) 0
zeros zero i = refl
zeros (suc n) zero = refl
zeros (suc n) (suc i) = zeros n i

-- A cell that is not 0 stands in the list.
pub inside : (xs : List ℕ) (i : ℕ) → 1 ≤ get_or xs i 0 → i < length xs
inside xs i h = go (dec_lt i (length xs))
  where
    go : Dec (i < length xs) → i < length xs
    go (yes l) = l
    go (no n) = let l : length xs ≤ i = omega arith in absurd (omega (arith, get_or-eq_default xs 0 l))

-- The sum of f over the cells.
unfoldable pub total : (ℕ → ℕ) → List ℕ → ℕ
total f [] = 0
total f (x ∷ xs) = f x + total f xs

-- A store changes a sum by what it changes at its cell.
pub total-set : (f : ℕ → ℕ) (xs : List ℕ) (i y : ℕ) → i < length xs → total f (set xs i y) + f (get_or xs i 0) ≡ total f xs + f y
unfolding total
total-set f [] i y h = absurd (omega arith)
total-set f (x ∷ xs) zero y h = omega arith
total-set f (x ∷ xs) (suc i) y h = let e = total-set f xs i y (le_of_suc-le-suc h) in omega arith

-- A sum of terms of at most 1 is at most the length.
pub total_le : (f : ℕ → ℕ) (xs : List ℕ) → ((x : ℕ) → f x ≤ 1) → total f xs ≤ length xs
unfolding total
total_le f [] h = zero-le
total_le f (x ∷ xs) h = omega (arith, h x, total_le f xs h)

-- w i + w (i + 1) + .., n terms.
unfoldable pub sum_from : (ℕ → ℕ) → ℕ → ℕ → ℕ
sum_from w i zero = 0
sum_from w i (suc n) = w i + sum_from w (suc i) n

-- A sum over the cells from index i on is at most the sum of bounds for each index.
pub total_under : (f w : ℕ → ℕ) (i : ℕ) (xs : List ℕ) → ((j n : ℕ) → i + j ≡ n → f (get_or xs j 0) ≤ w n) → total f xs ≤ sum_from w i (length xs)
unfolding total sum_from
total_under f w i [] h = zero-le
total_under f w i (x ∷ xs) h = omega (arith, h 0 i (omega arith), total_under f w (suc i) xs (λ j n e. h (suc j) n (omega arith)))
