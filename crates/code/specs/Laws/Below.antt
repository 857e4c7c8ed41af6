-- Whether some number below a bound passes a test, as a test that computes.
use Rattle.std.specs.Prelude.{◌≡◌, refl, Bool, true, false, ◌||◌, ◌⊎◌, ℕ, zero, suc, ◌+◌, ◌<◌}
use Rattle.std.proofs.Common.{sym, ◌∙◌, inl, inr, add-one, arith}
use Rattle.std.proofs.lemmas.Bool.{false≢true}
use Rattle.std.proofs.Math.Decide.{ℕ_discrete}

-- Some number below n passes the test.
unfoldable pub some_below : (ℕ → Bool) → ℕ → Bool
some_below f zero = false
some_below f (suc n) = f n || some_below f n

pub none_yet : (f : ℕ → Bool) → some_below f 0 ≡ false
unfolding some_below
none_yet f = refl

pub none_more : (f : ℕ → Bool) (n : ℕ) {b : Bool} → some_below f n ≡ false → b ≡ f n → b ≡ false → some_below f (n + 1) ≡ false
unfolding some_below
none_more f n h e d = rw (add-one n) (rw (sym e ∙ d, h))

pub none_below : (f : ℕ → Bool) (n : ℕ) → ((i : ℕ) → i < n → f i ≡ false) → some_below f n ≡ false
unfolding some_below
none_below f zero h = refl
none_below f (suc n) h = rw (h n (omega arith), none_below f n (λ i l. h i (omega arith)))

pub or_cases : (a b : Bool) → (a || b) ≡ true → (a ≡ true) ⊎ (b ≡ true)
or_cases true b e = inl refl
or_cases false b e = inr e

pub or_left : (a b : Bool) → a ≡ true → (a || b) ≡ true
or_left true b e = refl
or_left false b e = absurd (false≢true e)

pub or_right : (a b : Bool) → b ≡ true → (a || b) ≡ true
or_right true b e = refl
or_right false b e = e

-- A number below n that passes the test.
pub record Some (f : ℕ → Bool) (n : ℕ) : Type 0 where
  pub x : ℕ
  pub below : x < n
  pub passes : f x ≡ true

some_here : (f : ℕ → Bool) (n : ℕ) → f n ≡ true → Some f (suc n)
some_here f n e = record { x = n; below = omega arith; passes = e }

some_later : (f : ℕ → Bool) (n : ℕ) → Some f n → Some f (suc n)
some_later f n s = record { x = s.x; below = let h = s.below in omega arith; passes = s.passes }

some_step : (f : ℕ → Bool) (n : ℕ) → (some_below f n ≡ true → Some f n) → (f n ≡ true) ⊎ (some_below f n ≡ true) → Some f (suc n)
some_step f n ih (inl e) = some_here f n e
some_step f n ih (inr e) = some_later f n (ih e)

-- Where the test says that some number passes, one does.
pub some_out : (f : ℕ → Bool) (n : ℕ) → some_below f n ≡ true → Some f n
unfolding some_below
some_out f zero e = absurd (false≢true e)
some_out f (suc n) e = some_step f n (some_out f n) (or_cases (f n) (some_below f n) e)

some_in_step : (f : ℕ → Bool) (n x : ℕ) → (x < n → some_below f n ≡ true) → x < suc n → f x ≡ true → Dec (x ≡ n) → (f n || some_below f n) ≡ true
some_in_step f n x ih h e (yes z) = or_left (f n) (some_below f n) (rw z at e)
some_in_step f n x ih h e (no z) = or_right (f n) (some_below f n) (ih (omega arith))

-- And the other way round.
pub some_in : (f : ℕ → Bool) (n x : ℕ) → x < n → f x ≡ true → some_below f n ≡ true
unfolding some_below
some_in f zero x h e = absurd (omega arith)
some_in f (suc n) x h e = some_in_step f n x (λ l. some_in f n x l e) h e (ℕ_discrete x n)
