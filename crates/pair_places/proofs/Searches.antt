-- What `any` answers over a range of numbers.
use mathlib.Core.Path.{◌≡◌, refl, sym, ◌∙◌}
use mathlib.Core.Bool.{Bool, true, false}
use Prim.Native.Nat.{ℕ, zero, suc, ◌+◌, ◌≤◌, ◌<◌}
use native.Mathlib.Omega.{arith}
use denote.Param.Members.{Mut}
use Rattle.std.specs.declared.ops.Range.{Range}
use Rattle.std.proofs.iter.Yields.{nat_range_steps}
use Rattle.std.proofs.lemmas.Bool.{false≢true}
use Rattle.std.proofs.lemmas.Iterator.{YieldsList-from_range}
use Rattle.std.proofs.lemmas.Iterator.Search.{any_from_yields_List}
use Rattle.std.proofs.lemmas.List.Folds.{list_any_at}
use Rattle.std.proofs.lemmas.List.FromFn.{length-range_with_len, get_or-range_with_len}
use Rattle.std.specs.Fn.{Called}
use Rattle.std.specs.Iterator.{ChecksAny}
use Rattle.std.specs.List.{list_any, range_with_len}
use Rattle.code.specs.Laws.Below.{some_below, some_in, some_out}

-- Whether some number of a row passes is whether some number below the row's end does.
any_none : (p : ℕ → Bool) (a n : ℕ) → ((i : ℕ) → a ≤ i → i < a + n → p i ≡ false) → list_any p (range_with_len a n) ≡ false
any_none p a zero h = refl
any_none p a (suc n) h = rw (h a (omega arith) (omega arith)) (any_none p (a + 1) n (λ i l k. h i (omega arith) (omega arith)))

any_one : (p : ℕ → Bool) (n i : ℕ) → i < n → p i ≡ true → list_any p (range_with_len 0 n) ≡ true
any_one p n i h e = list_any_at p (range_with_len 0 n) i 0 (rw (length-range_with_len 0 n) h) (let z : 0 + i ≡ i = omega arith in rw (get_or-range_with_len 0 n i 0 h, z) e)

any_below : (p : ℕ → Bool) (n : ℕ) → list_any p (range_with_len 0 n) ≡ some_below p n
any_below p n = by (some_below p n) refl
  where
    fails : some_below p n ≡ false → (i : ℕ) → i < n → (a : Bool) → p i ≡ a → p i ≡ false
    fails e i h true d = absurd (false≢true (sym e ∙ some_in p n i h d))
    fails e i h false d = d

    by : (a : Bool) → some_below p n ≡ a → list_any p (range_with_len 0 n) ≡ some_below p n
    by true e = let s = some_out p n e in any_one p n s.x s.below s.passes ∙ sym e
    by false e = any_none p 0 n (λ i l h. fails e i (omega arith) (p i) refl) ∙ sym e

-- So an `any` over the numbers below n, whose closure is the test p, answers whether some of them passes.
pub any_passes : {F : Type 0} {g : Mut F (ℕ × Unit {0}) Bool} {s : Range ℕ} (p : ℕ → Bool) (n : ℕ) (u : Range ℕ) (f : F) (r : Bool) → s ≡ record { start = 0; end = n }
    → ChecksAny nat_range_steps g s f r u → ((x : ℕ) (b : Bool) (q : F) → Called g f (x, tt) b q → (q ≡ f) × (b ≡ p x)) → r ≡ some_below p n
any_passes p n u f r e ran h = any_from_yields_List p u f r ran (YieldsList-from_range 0 n n e (omega arith)) h ∙ any_below p n
