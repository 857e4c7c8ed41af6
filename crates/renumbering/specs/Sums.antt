-- Sums of f 0 to f (n - 1): term by term, in two dimensions, with a single term, and in another order.
use Rattle.std.specs.Prelude.{◌≡◌, refl, [], ◌∷◌, ℕ, zero, suc, ◌+◌, ◌<◌, eqb, if◌then◌else◌}
use Rattle.std.proofs.Common.{sym, ap, ◌∙◌, arith, eq-eqb, ne_eqb}
use Rattle.std.proofs.Math.Decide.{ℕ_discrete}
use Rattle.code.specs.Definitions.Lists.{tabulate, sum}
use Rattle.code.specs.Laws.Lists.{tabulate_same, sum_append, sum_past}
use Rattle.ban_theory.specs.Renumbered.{Order}

abbrev pub sum_of : (ℕ → ℕ) → ℕ → ℕ
sum_of f n = sum (tabulate f n)

sum_next : (f : ℕ → ℕ) (n : ℕ) → sum_of f (suc n) ≡ sum_of f n + f n
unfolding tabulate sum
sum_next f n = omega (arith, sum_append (tabulate f n) (f n ∷ []))

pub sum_none : (n : ℕ) → sum_of (λ k. 0) n ≡ 0
unfolding tabulate sum
sum_none n = sum_past (λ k. 0) 0 n (omega arith) (λ k h i. refl)

pub sum_ones : (n : ℕ) → sum_of (λ k. 1) n ≡ n
unfolding tabulate sum
sum_ones zero = refl
sum_ones (suc n) = omega (arith, sum_next (λ k. 1) n, sum_ones n)

pub sum_same : (f g : ℕ → ℕ) (n : ℕ) → ((k : ℕ) → k < n → f k ≡ g k) → sum_of f n ≡ sum_of g n
sum_same f g n same = ap sum (tabulate_same f g n same)

pub sum_add : (f g : ℕ → ℕ) (n : ℕ) → sum_of (λ k. f k + g k) n ≡ sum_of f n + sum_of g n
unfolding tabulate sum
sum_add f g zero = refl
sum_add f g (suc n) = omega (arith, sum_next (λ k. f k + g k) n, sum_next f n, sum_next g n, sum_add f g n)

sum_swap : (g : ℕ → ℕ → ℕ) (n m : ℕ) → sum_of (λ i. sum_of (g i) m) n ≡ sum_of (λ j. sum_of (λ i. g i j) n) m
unfolding tabulate sum
sum_swap g zero m = sym (sum_none m)
sum_swap g (suc n) m =
    sum_next (λ i. sum_of (g i) m) n
    ∙ ap (λ (k : ℕ). k + sum_of (g n) m) (sum_swap g n m)
    ∙ sym (sum_add (λ j. sum_of (λ i. g i j) n) (g n) m)
    ∙ sum_same (λ j. sum_of (λ i. g i j) n + g n j) (λ j. sum_of (λ i. g i j) (suc n)) m (λ j h. sym (sum_next (λ i. g i j) n))

-- v at k, and else 0
abbrev pub only : ℕ → ℕ → ℕ → ℕ
only k v i = if eqb i k then v else 0

only_step : (k v n : ℕ) → (k < n → sum_of (only k v) n ≡ v) → k < suc n → Dec (k ≡ n) → sum_of (only k v) n + only k v n ≡ v
only_step k v n before h (yes e) =
    let a : sum_of (only k v) n ≡ 0 = sum_same (only k v) (λ i. 0) n (λ i l. rw (ne_eqb i k (λ d. omega arith))) ∙ sum_none n in
    rw (a, eq-eqb n k (sym e)) (omega arith)
only_step k v n before h (no e) = rw (before (omega arith), ne_eqb n k (λ d. e (sym d))) (omega arith)

pub sum_only : (k v n : ℕ) → k < n → sum_of (only k v) n ≡ v
sum_only k v zero h = absurd (omega arith)
sum_only k v (suc n) h = sum_next (only k v) n ∙ only_step k v n (sum_only k v n) h (ℕ_discrete k n)

module _ {n : ℕ} {old new : ℕ → ℕ} (o : Order n old new) (f : ℕ → ℕ) where
  other_way : (x i : ℕ) → x < n → i < n → Dec (x ≡ old i) → only (old i) (f (old i)) x ≡ only (new x) (f x) i
  other_way x i h k (yes e) = rw (eq-eqb x (old i) e, eq-eqb i (new x) (sym (o.new-old i k) ∙ ap new (sym e)), e)
  other_way x i h k (no e) = rw (ne_eqb x (old i) e, ne_eqb i (new x) (λ z. e (sym (o.old-new x h) ∙ ap old (sym z))))

  -- A sum does not depend on the order.
  pub sum_order : sum_of (λ i. f (old i)) n ≡ sum_of f n
  sum_order =
      sum_same (λ i. f (old i)) (λ i. sum_of (only (old i) (f (old i))) n) n (λ i h. sym (sum_only (old i) (f (old i)) n (o.old_known i h)))
      ∙ sum_swap (λ i. only (old i) (f (old i))) n n
      ∙ sum_same (λ x. sum_of (λ i. only (old i) (f (old i)) x) n) f n
      (λ x h.
      sum_same (λ i. only (old i) (f (old i)) x) (only (new x) (f x)) n (λ i k. other_way x i h k (ℕ_discrete x (old i)))
      ∙ sum_only (new x) (f x) n (o.new_known x h))
