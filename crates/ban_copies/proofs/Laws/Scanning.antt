-- A scan of the copies or of the bans says whether one of them is the one that is looked for.
use Rattle.std.specs.Prelude.{◌≡◌, refl, ◌↔◌, Bool, true, false, ◌&&◌, List, ℕ, ◌+◌, ◌*◌, get_or}
use Rattle.std.proofs.Common.{sym, arith, eqb-true}
use Rattle.std.proofs.Math.Bool.{and-eq-true_iff}
use borrow.Author.Tests.{eq-eqb}
use Rattle.code.specs.Definitions.Lists.{any, tabulate}
use Rattle.code.specs.Definitions.Bans.{is_copy, has_copy, is_ban, banned_by}
use Rattle.code.specs.Laws.Chains.{SomeBetween}
use Rattle.code.specs.Laws.Exactly.{Exactly, exactly_iff}
use Rattle.code.specs.Laws.Lists.{any-tabulate, any_found}
use Rattle.ban_theory.specs.Triples.{ban_at, bans_from}
use Rattle.ban_copies.specs.declared.Copies.{Copies}
use Rattle.ban_copies.specs.Held.{copy_held, held}

two_true : {a b : Bool} → a ≡ true → b ≡ true → (a && b) ≡ true
two_true p q = rw (p, q)

true_two : {a b : Bool} → (a && b) ≡ true → (a ≡ true) × (b ≡ true)
true_two {a} {b} e = (and-eq-true_iff a b).0 e

-- Whether some element of a table passes a test
module _ {A : Type 0} (p : A → Bool) (f : ℕ → A) (n : ℕ) where
  any_is : (r : Bool) → Exactly r (SomeBetween 0 n (λ i. p (f i) ≡ true)) → r ≡ any p (tabulate f n)
  any_is true t = let s = t.yes refl in sym (any_found p f n s.k s.below s.holds)
  any_is false t = sym (any-tabulate p f n (λ j h. fails (p (f j)) (λ e. t.no refl (record { k = j; from = omega arith; below = h; holds = e }))))
    where
      fails : (b : Bool) → (b ≡ true → ⊥) → b ≡ false
      fails true n = absurd (n refl)
      fails false n = refl

some_both : {n : ℕ} {P Q : ℕ → Type 0} → ((i : ℕ) → P i ↔ Q i) → SomeBetween 0 n P ↔ SomeBetween 0 n Q
some_both both = (
  (λ s. record { k = s.k; from = s.from; below = s.below; holds = (both s.k).0 s.holds }),
  (λ s. record { k = s.k; from = s.from; below = s.below; holds = (both s.k).1 s.holds }),
)

-- Copy i of the arrays is one of z after y.
abbrev pub CopyIs : Copies → ℕ → ℕ → ℕ → Type 0
CopyIs k y z i = (get_or k.behind (k.originals + i) 0 ≡ y) × (get_or k.origins (k.originals + i) 0 ≡ z)

pub copy_any : (k : Copies) (y z : ℕ) (r : Bool) → Exactly r (SomeBetween 0 k.number (CopyIs k y z)) → r ≡ has_copy (held k) y z
unfolding held has_copy
copy_any k y z r t =
    any_is (is_copy y z) (copy_held k) k.number r
    (exactly_iff (some_both (λ i. ((λ p. two_true (eq-eqb _ _ p.0) (eq-eqb _ _ p.1)), (λ e. let a = true_two e in (eqb-true _ _ a.0, eqb-true _ _ a.1))))) t)

-- Ban i of the numbers l is on x after y then z.
abbrev pub BanIs : List ℕ → ℕ → ℕ → ℕ → ℕ → Type 0
BanIs l x y z i = (get_or l (3 * i) 0 ≡ x) × (get_or l (3 * i + 1) 0 ≡ y) × (get_or l (3 * i + 2) 0 ≡ z)

pub ban_any : (l : List ℕ) (n x y z : ℕ) (r : Bool) → Exactly r (SomeBetween 0 n (BanIs l x y z)) → r ≡ banned_by (bans_from l n) x y z
unfolding bans_from banned_by
ban_any l n x y z r t =
    any_is (is_ban x y z) (ban_at l) n r
    (exactly_iff (some_both (λ i. (
      (λ p. two_true (eq-eqb _ _ p.0) (two_true (eq-eqb _ _ p.1) (eq-eqb _ _ p.2))),
      (λ e. let a = true_two e in let b = true_two a.1 in (eqb-true _ _ a.0, eqb-true _ _ b.0, eqb-true _ _ b.1)),
    ))) t)
