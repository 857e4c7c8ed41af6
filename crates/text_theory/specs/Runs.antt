-- The letters that a text begins with: they and what comes behind them are the text, and what comes behind them begins with no letter.
use Rattle.std.specs.Prelude.{◌≡◌, Bool, ℕ, ◌≤◌, length, if◌then◌else◌}
use Rattle.std.proofs.Math.Path.{refl, ap}
use Rattle.std.proofs.Common.{sym, ◌∙◌, arith, length-append}
use Rattle.std.proofs.Math.Bool.{true, false}
use Rattle.std.proofs.lemmas.Bool.{false≢true}
use mathlib.Core.List.{List, [], ◌∷◌, ◌++◌}
use Rattle.code.specs.Definitions.Lists.{every}
use Rattle.code.specs.Definitions.Texts.{is_letter, run, rest}

module _ (classes : List ℕ) where
  -- No letter stands first: the text is empty, or begins with another byte.
  pub data Apart : List ℕ → Type 0 where
    none : Apart []
    other : {a : ℕ} {s : List ℕ} → is_letter classes a ≡ false → Apart (a ∷ s)

  pub letter_apart : {a : ℕ} {s : List ℕ} → is_letter classes a ≡ true → Apart (a ∷ s) → ⊥
  letter_apart h (other k) = false≢true (sym k ∙ h)

  pub run-rest : (s : List ℕ) → run classes s ++ rest classes s ≡ s
  unfolding run rest
  run-rest [] = refl
  run-rest (a ∷ s) = by (is_letter classes a) (run-rest s)
    where
      by : (t : Bool) → run classes s ++ rest classes s ≡ s → (if t then a ∷ run classes s else []) ++ (if t then rest classes s else a ∷ s) ≡ a ∷ s
      by true e = ap (◌∷◌ a) e
      by false e = refl

  pub rest_apart : (s : List ℕ) → Apart (rest classes s)
  unfolding rest
  rest_apart [] = none
  rest_apart (a ∷ s) = by (is_letter classes a) refl (rest_apart s)
    where
      by : (t : Bool) → is_letter classes a ≡ t → Apart (rest classes s) → Apart (if t then rest classes s else a ∷ s)
      by true e r = r
      by false e r = other e

  -- A run that begins with a letter is not empty.
  pub run_some : (a : ℕ) (s : List ℕ) → is_letter classes a ≡ true → 1 ≤ length (run classes (a ∷ s))
  unfolding run
  run_some a s h = rw h (omega arith)

  -- Behind the run that a letter begins, less is left.
  pub rest_shorter : (a : ℕ) (s : List ℕ) → is_letter classes a ≡ true → length (rest classes (a ∷ s)) ≤ length s
  rest_shorter a s h =
      omega
      (arith, run_some a s h, length-append (run classes (a ∷ s)) (rest classes (a ∷ s)), ap length (run-rest (a ∷ s)))

  -- Letters, and then the end or another byte: these letters are the run.
  pub run_until : (w s : List ℕ) → every (is_letter classes) w ≡ true → Apart s → (run classes (w ++ s) ≡ w) × (rest classes (w ++ s) ≡ s)
  unfolding run rest every
  run_until [] [] e a = (refl, refl)
  run_until [] (b ∷ s) e (other h) = (rw h, rw h)
  run_until (b ∷ w) s e a = by (is_letter classes b) refl e (run_until w s)
    where
      by : (t : Bool) → is_letter classes b ≡ t → every (is_letter classes) (b ∷ w) ≡ true
          → (every (is_letter classes) w ≡ true → Apart s → (run classes (w ++ s) ≡ w) × (rest classes (w ++ s) ≡ s))
          → (run classes (b ∷ (w ++ s)) ≡ b ∷ w) × (rest classes (b ∷ (w ++ s)) ≡ s)
      by true h e f = let g = f (rw h at e) a in (rw h (ap (◌∷◌ b) g.0), rw h g.1)
      by false h e f = absurd (false≢true (rw h at e))
