-- The two places of a pair stay apart until two ends are met: only from two ends can one step lead both places to the same one. And since a pair that is
-- not two ends has an inner place, whose word has one next symbol, at most one symbol leads the pair on.
use Rattle.std.specs.Prelude.{◌≡◌, List, ◌⊎◌, ℕ, suc, length}
use Rattle.std.proofs.Common.{sym, ap, ◌∙◌, subst, inl, inr, arith}
use Rattle.std.proofs.Math.Decide.{ℕ_discrete}
use Rattle.code.specs.Definitions.Tables.{Table, word}
use Rattle.code.specs.Definitions.Readings.{Decipherable}
use Rattle.pair_theory.specs.Places.{Place, Plain, symbol, Ends, Step, inside, across, Parting, Compatible, FirstPair, CommonStep, Reached, start, onward}
use Rattle.pair_theory.specs.Pairs.{compatible_reached}
use Rattle.pair_theory.specs.Ends.{place_eq}
use Rattle.pair_theory.specs.Ambiguity.{parting_ends}

module _ {t : Table} where
  -- Two steps to one place come from one place, or from two ends.
  differ_step : {p q r : Place} → Step t p r → Step t q r → (p ≡ q) ⊎ (Ends t p × Ends t q)
  differ_step (inside h e) (inside k f) = inl (place_eq (ap (λ (z : Place). z.w) (sym e ∙ f)) (let g = ap (λ (z : Place). z.k) (sym e ∙ f) in omega arith))
  differ_step (inside h e) (across d k f g) = absurd (let z = ap (λ (z : Place). z.k) (sym e ∙ g) in omega arith)
  differ_step (across d k f g) (inside h e) = absurd (let z = ap (λ (z : Place). z.k) (sym e ∙ g) in omega arith)
  differ_step (across d k f g) (across d' k' f' g') = inr (d, d')

  -- One common step of two places that differ and are not both ends leads to two places that differ.
  pub stay_apart : {p q p' q' : Place} → (p ≡ q → ⊥) → (Ends t p × Ends t q → ⊥) → CommonStep t p q p' q' → p' ≡ q' → ⊥
  stay_apart {p} {q} {p'} d n s e = go (differ_step s.left (subst (Step t q) (sym e) s.right))
    where
      go : (p ≡ q) ⊎ (Ends t p × Ends t q) → ⊥
      go (inl h) = d h
      go (inr h) = n h

  pub first_apart : {p q : Place} → FirstPair t (Parting t) p q → p ≡ q → ⊥
  first_apart f e = f.starts.differ (ap (λ (z : Place). z.w) (sym f.left ∙ e ∙ f.right))

  module _ (plain : Plain t) (d : Decipherable t) where
    reached_apart : {m : List ℕ} {p q : Place} → Reached t (Parting t) m p q → p ≡ q → ⊥
    reached_apart (start f e) h = first_apart f h
    reached_apart (onward r s e) h = stay_apart (λ z. reached_apart r z) (λ z. parting_ends plain d (compatible_reached.1 r) z.0 z.1) s h

    -- In a decipherable code the places of a compatible pair of rivals differ.
    pub apart : {m : List ℕ} {p q : Place} → Compatible t (Parting t) m p q → p ≡ q → ⊥
    apart h e = reached_apart (compatible_reached.0 h) e

  -- One step leads an inner place on.
  inside_only : {p a b : Place} → (Ends t p → ⊥) → Step t p a → Step t p b → a ≡ b
  inside_only n (inside h e) (inside k f) = e ∙ sym f
  inside_only n (inside h e) (across d k f g) = absurd (n d)
  inside_only n (across d k f g) s = absurd (n d)

  -- At most one symbol leads on a pair that is not two ends.
  pub one_symbol_on : {p q a b a' b' : Place} → (Ends t p × Ends t q → ⊥) → CommonStep t p q a b → CommonStep t p q a' b' → symbol t a ≡ symbol t a'
  one_symbol_on {p} {q} {a} {a' = a'} n s u = go (ℕ_discrete (suc p.k) (length (word t p.w)))
    where
      go : Dec (Ends t p) → symbol t a ≡ symbol t a'
      go (yes h) = s.same ∙ ap (symbol t) (inside_only (λ k. n (h, k)) s.right u.right) ∙ sym u.same
      go (no h) = ap (symbol t) (inside_only h s.left u.left)
