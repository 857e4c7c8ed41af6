-- A Bool that says exactly whether something holds, and how two such Bools are joined: by `◌&&◌`, by `◌||◌`, and along an index; and what its contrary says.
use Rattle.std.specs.Prelude.{◌≡◌, refl, Bool, true, false, not, ◌&&◌, ◌||◌, ◌↔◌, ◌⊎◌, ℕ, ◌+◌, ◌≤◌, ◌<◌, ltb, leb, eqb}
use Rattle.std.proofs.Common.{sym, ◌∙◌, true≢false, inl, inr, arith, ltb-true, ltb-false, leb-true, leb-false, eqb-true, below_none, below_more}
use Rattle.std.proofs.lemmas.Bool.{false≢true, eqb-false}

pub record Exactly (r : Bool) (P : Type 0) : Type 0 where
  pub yes : r ≡ true → P
  pub no : r ≡ false → P → ⊥

pub exactly_true : {P : Type 0} → P → Exactly true P
exactly_true p = record { yes = λ e. p; no = λ e q. true≢false e }

pub exactly_false : {P : Type 0} → (P → ⊥) → Exactly false P
exactly_false n = record { yes = λ e. absurd (false≢true e); no = λ e. n }

pub exactly_iff : {r : Bool} {P Q : Type 0} → P ↔ Q → Exactly r P → Exactly r Q
exactly_iff i t = record { yes = λ e. i.0 (t.yes e); no = λ e q. t.no e (i.1 q) }

pub exactly_and : {a b : Bool} {P Q : Type 0} → Exactly a P → Exactly b Q → Exactly (a && b) (P × Q)
exactly_and {a = true} {b = true} t u = exactly_true (t.yes refl, u.yes refl)
exactly_and {a = true} {b = false} t u = exactly_false (λ p. u.no refl p.1)
exactly_and {a = false} t u = exactly_false (λ p. t.no refl p.0)

pub exactly_or : {a b : Bool} {P Q : Type 0} → Exactly a P → Exactly b Q → Exactly (a || b) (P ⊎ Q)
exactly_or {a = true} t u = exactly_true (inl (t.yes refl))
exactly_or {a = false} {b = true} t u = exactly_true (inr (u.yes refl))
exactly_or {a = false} {b = false} {P = P} {Q = Q} t u = exactly_false neither
  where
    neither : P ⊎ Q → ⊥
    neither (inl p) = t.no refl p
    neither (inr q) = u.no refl q

pub exactly_not : {r : Bool} {P : Type 0} → Exactly r P → Exactly (not r) (P → ⊥)
exactly_not {r = true} t = exactly_false (λ n. n (t.yes refl))
exactly_not {r = false} t = exactly_true (t.no refl)

-- Every Bool says whether it is true.
pub exactly_itself : (r : Bool) → Exactly r (r ≡ true)
exactly_itself r = record { yes = λ e. e; no = λ e f. false≢true (sym e ∙ f) }

-- Where it holds, the Bool is true.
pub exactly_on : {r : Bool} {P : Type 0} → Exactly r P → P → r ≡ true
exactly_on {r = true} t p = refl
exactly_on {r = false} t p = absurd (t.no refl p)

-- Two Bools that say the same are equal.
pub exactly_same : {r q : Bool} {P : Type 0} → Exactly r P → Exactly q P → r ≡ q
exactly_same {r = true} t u = sym (exactly_on u (t.yes refl))
exactly_same {r = false} {q = true} t u = absurd (t.no refl (u.yes refl))
exactly_same {r = false} {q = false} t u = refl

-- Tests of numbers

pub exactly_lt : (a b : ℕ) → Exactly (ltb a b) (a < b)
exactly_lt a b = record { yes = ltb-true a b; no = λ e h. omega (arith, ltb-false a b e) }

pub exactly_le : (a b : ℕ) → Exactly (leb a b) (a ≤ b)
exactly_le a b = record { yes = leb-true a b; no = λ e h. omega (arith, leb-false a b e) }

pub exactly_eq : (a b : ℕ) → Exactly (eqb a b) (a ≡ b)
exactly_eq a b = record { yes = eqb-true a b; no = eqb-false a b }

-- Along an index

module _ (P : ℕ → Type 0) where
  pub exactly_none : Exactly true ((k : ℕ) → k < 0 → P k)
  exactly_none = exactly_true (below_none P)

  -- one index more
  pub exactly_more : {a b : Bool} (i : ℕ) → Exactly a (P i) → Exactly b ((k : ℕ) → k < i → P k) → Exactly (a && b) ((k : ℕ) → k < i + 1 → P k)
  exactly_more i here below =
      exactly_iff ((λ p. below_more P i p.1 p.0), (λ all. (all i (omega arith), (λ k h. all k (omega arith))))) (exactly_and here below)
