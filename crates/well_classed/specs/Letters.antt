-- The letters among the bytes below a bound, each once, from the highest down.
use Rattle.std.specs.Prelude.{◌≡◌, refl, Bool, true, false, List, [], ◌∷◌, ℕ, zero, suc, ◌≤◌, ◌<◌, length, get_or}
use Rattle.std.proofs.Common.{arith}
use Rattle.code.specs.Definitions.Texts.{is_letter}

module _ (c : List ℕ) where
  -- the letters below n
  pub data Letters : ℕ → List ℕ → Type 0 where
    none : Letters 0 []
    letter : {n : ℕ} {l : List ℕ} → is_letter c n ≡ true → Letters n l → Letters (suc n) (n ∷ l)
    past : {n : ℕ} {l : List ℕ} → is_letter c n ≡ false → Letters n l → Letters (suc n) l

  pub record Listed (n : ℕ) : Type 0 where
    pub list : List ℕ
    pub letters : Letters n list

  list_on : (n : ℕ) (t : Bool) → is_letter c n ≡ t → Listed n → Listed (suc n)
  list_on n true e l = record { list = n ∷ l.list; letters = letter e l.letters }
  list_on n false e l = record { list = l.list; letters = past e l.letters }

  pub listed : (n : ℕ) → Listed n
  listed zero = record { list = []; letters = none }
  listed (suc n) = list_on n (is_letter c n) refl (listed n)

  pub letters_few : {n : ℕ} {l : List ℕ} → Letters n l → length l ≤ n
  letters_few none = omega arith
  letters_few (letter e d) = omega (arith, letters_few d)
  letters_few (past e d) = omega (arith, letters_few d)

  pub letter_at : {n : ℕ} {l : List ℕ} → Letters n l → (k : ℕ) → k < length l → (get_or l k 0 < n) × (is_letter c (get_or l k 0) ≡ true)
  letter_at none k h = absurd (omega arith)
  letter_at (letter e d) zero h = (omega arith, e)
  letter_at (letter e d) (suc k) h = let at = letter_at d k (omega arith) in (omega arith, at.1)
  letter_at (past e d) k h = let at = letter_at d k h in (omega arith, at.1)
