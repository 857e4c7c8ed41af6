-- What std's chains over a range and `from_fn` give, where the closure keeps what it captures: `all` says exactly whether each number of the range has the property that
-- the closure tests, `any` whether some has it, and `from_fn` makes the list of the closure's values.
use Rattle.std.specs.Prelude.{◌≡◌, refl, List, Bool, true, false, ℕ, zero, suc, ◌+◌, ◌-◌, ◌≤◌, ◌<◌, length, get_or, MatchBool}
use Rattle.std.proofs.Common.{sym, ◌∙◌, arith}
use Rattle.std.proofs.Math.Decide.{dec_lt}
use Rattle.std.specs.Array.{IsFromFnResultFrom, IsFromFnResult}
use Rattle.std.specs.List.{AllWithin, HoldsAt, range_with_len}
use Rattle.std.specs.Fn.{Called}
use Rattle.std.specs.Iterator.{ChecksAll, ChecksAny}
use Rattle.std.specs.declared.ops.Range.{Range}
use Rattle.std.proofs.iter.Yields.{nat_range_steps}
use Rattle.std.proofs.lemmas.Iterator.{cases_from_all, cases_from_any, YieldsList-from_range}
use Rattle.std.proofs.lemmas.List.FromFn.{length-range_with_len, get_or-range_with_len}
use denote.Param.Members.{Mut}
use Rattle.code.specs.Definitions.Lists.{tabulate}
use Rattle.code.specs.Laws.Lists.{tabulate_list}
use Rattle.code.specs.Laws.Exactly.{Exactly, exactly_true, exactly_false, exactly_iff}

module _ (a b : ℕ) where
  -- the numbers of the range
  abbrev numbers : List ℕ
  numbers = range_with_len a (b - a)

  count : length numbers ≡ b - a
  count = length-range_with_len a (b - a)

  place : (k : ℕ) → k < length numbers → get_or numbers k 0 ≡ a + k
  place k h = get_or-range_with_len a (b - a) k 0 (omega (arith, count))

  module _ (P : ℕ → Type 0) where
    pub record SomeBetween : Type 0 where
      pub k : ℕ
      pub from : a ≤ k
      pub below : k < b
      pub holds : P k

    every : AllWithin P numbers 0 (length numbers) → (k : ℕ) → a ≤ k → k < b → P k
    every all k h i =
        let j : k - a < length numbers = omega (arith, count) in
        let e : a + (k - a) ≡ k = omega arith in
        rw (place (k - a) j, e) at (all (k - a) 0 (omega arith) j)

    found : (k : ℕ) → k < length numbers → HoldsAt P numbers k → SomeBetween
    found k h holds = record { k = a + k; from = omega arith; below = omega (arith, count); holds = rw (place k h) at (holds 0) }

  module _ (P : ℕ → Type 0) where
    all_cases : (r : Bool) → MatchBool r (AllWithin P numbers 0 (length numbers)) ((k : ℕ) × (k < length numbers) × HoldsAt (λ x. P x → ⊥) numbers k)
        → Exactly r ((k : ℕ) → a ≤ k → k < b → P k)
    all_cases true all = exactly_true (every P all)
    all_cases false some = let none = found (λ x. P x → ⊥) some.0 some.1 some.2 in exactly_false (λ all. none.holds (all none.k none.from none.below))

    any_cases : (r : Bool) → MatchBool r ((k : ℕ) × (k < length numbers) × HoldsAt P numbers k) (AllWithin (λ x. P x → ⊥) numbers 0 (length numbers))
        → Exactly r (SomeBetween P)
    any_cases true some = exactly_true (found P some.0 some.1 some.2)
    any_cases false none = exactly_false (λ s. every (λ x. P x → ⊥) none s.k s.from s.below s.holds)

  module _ {F : Type 0} {g : Mut F (ℕ × Unit {0}) Bool} (P : ℕ → Type 0) (u : Range ℕ) (f : F) where
    pub exactly_all_from : (r : Bool) → ChecksAll nat_range_steps g (record { start = a; end = b }) f r u
        → ((x : ℕ) (q : F) → Called g f (x, tt) true q → (q ≡ f) × P x) → ((x : ℕ) (q : F) → Called g f (x, tt) false q → P x → ⊥)
        → Exactly r ((k : ℕ) → a ≤ k → k < b → P k)
    exactly_all_from r ran passes fails = all_cases P r (cases_from_all u f r P (λ x. P x → ⊥) ran (YieldsList-from_range a b (b - a) refl refl) passes fails)

    pub exactly_any : (r : Bool) → ChecksAny nat_range_steps g (record { start = a; end = b }) f r u
        → ((x : ℕ) (q : F) → Called g f (x, tt) true q → P x) → ((x : ℕ) (q : F) → Called g f (x, tt) false q → (q ≡ f) × (P x → ⊥))
        → Exactly r (SomeBetween P)
    exactly_any r ran passes fails = any_cases P r (cases_from_any u f r P (λ x. P x → ⊥) ran (YieldsList-from_range a b (b - a) refl refl) passes fails)

-- the same of the numbers below n
pub exactly_all : (n : ℕ) {F : Type 0} {g : Mut F (ℕ × Unit {0}) Bool} (P : ℕ → Type 0) (u : Range ℕ) (f : F) (r : Bool)
    → ChecksAll nat_range_steps g (record { start = 0; end = n }) f r u
    → ((x : ℕ) (q : F) → Called g f (x, tt) true q → (q ≡ f) × P x) → ((x : ℕ) (q : F) → Called g f (x, tt) false q → P x → ⊥)
    → Exactly r ((k : ℕ) → k < n → P k)
exactly_all n P u f r ran passes fails =
    exactly_iff ((λ all k h. all k (omega arith) h), (λ all k i h. all k h)) (exactly_all_from 0 n P u f r ran passes fails)

module _ {F B : Type 0} {g : Mut F (ℕ × Unit {0}) B} (h : ℕ → B) (f : F) (ys : List B) where
  -- the values from i on, n of them
  values : (n i : ℕ) → ((x : ℕ) (y : B) (q : F) → i ≤ x → x < i + n → Called g f (x, tt) y q → (q ≡ f) × (y ≡ h x)) → IsFromFnResultFrom g f ys i n
      → (k : ℕ) (d : B) → i ≤ k → k < i + n → Dec (i < k) → get_or ys k d ≡ h k
  values zero i gives made k d low high later = absurd (omega arith)
  values (suc n) i gives made k d low high (no first) =
      let e : i ≡ k = omega arith in
      rw e at (made.2.1 d ∙ (gives i made.1 made.0 (omega arith) (omega arith) made.3).1)
  values (suc n) i gives made k d low high (yes later) =
      let kept = (gives i made.1 made.0 (omega arith) (omega arith) made.3).0 in
      values n (i + 1) (λ x y q a b call. gives x y q (omega arith) (omega arith) call) (rw kept at made.4) k d (omega arith) (omega arith) (dec_lt (i + 1) k)

  pub made_of : (n : ℕ) (d : B) → IsFromFnResult g f ys n → ((x : ℕ) (y : B) (q : F) → x < n → Called g f (x, tt) y q → (q ≡ f) × (y ≡ h x)) → ys ≡ tabulate h n
  made_of n d made gives =
      sym (tabulate_list h n ys d made.long
      (λ k i. sym (values n 0 (λ x y q a b call. gives x y q (omega arith) call) made.each k d (omega arith) (omega arith) (dec_lt 0 k))))
