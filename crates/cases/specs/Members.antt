-- Members of the lists that the checks compute: of what a test keeps, of lists joined to one, and of the numbers below a bound.
use Rattle.std.specs.Prelude.{◌≡◌, Bool, true, false, ◌⊎◌, ℕ, zero, suc, ◌<◌, if◌then◌else◌}
use Rattle.std.proofs.Math.Path.{refl, ap}
use Rattle.std.proofs.Common.{sym, ◌∙◌, inl, inr, arith}
use Rattle.std.proofs.Math.Bool.{false≢true, and-eq-true_iff}
use mathlib.Core.List.Memᴰ
use mathlib.Core.List.{List, [], ◌∷◌, flat_map, Memᴰ}
use Rattle.std.proofs.Math.Decide.{ℕ_discrete}
use Rattle.code.specs.Definitions.Lists.{every, tabulate}

module _ {A : Type 0} where
  unfoldable pub empty : List A → Bool
  empty [] = true
  empty (a ∷ l) = false

  pub record Member (l : List A) : Type 0 where
    pub a : A
    pub member : Memᴰ a l

  -- An empty list has no member.
  pub empty_none : {a : A} {l : List A} → empty l ≡ true → Memᴰ a l → ⊥
  unfolding empty
  empty_none e (Memᴰ.head h) = false≢true e
  empty_none e (Memᴰ.tail m) = false≢true e

  -- Another list has a member.
  pub some_member : (l : List A) → empty l ≡ false → Member l
  unfolding empty
  some_member [] e = absurd (false≢true (sym e))
  some_member (a ∷ l) e = record { a = a; member = Memᴰ.head refl }

  -- Where every member passes a test, each does.
  pub every_member : (f : A → Bool) {a : A} {l : List A} → every f l ≡ true → Memᴰ a l → f a ≡ true
  unfolding every
  every_member f e (Memᴰ.head {x} {xs} h) = ap f h ∙ ((and-eq-true_iff (f x) (every f xs)).0 e).0
  every_member f e (Memᴰ.tail {x} {xs} m) = every_member f ((and-eq-true_iff (f x) (every f xs)).0 e).1 m

module _ {A B : Type 0} (f : A → List B) where
  -- A member of l, and b in its list.
  pub record Source (b : B) (l : List A) : Type 0 where
    pub a : A
    pub member : Memᴰ a l
    pub gives : Memᴰ b (f a)

  -- Lists joined to one have the members of each.
  pub flat_map_in : {a : A} {b : B} {l : List A} → Memᴰ a l → Memᴰ b (f a) → Memᴰ b (flat_map f l)
  unfolding flat_map
  flat_map_in (Memᴰ.head {xs = xs} h) m = Memᴰ.append_left (flat_map f xs) (rw h at m)
  flat_map_in (Memᴰ.tail {x} n) m = Memᴰ.append_right (f x) (flat_map_in n m)

  source_later : {b : B} {x : A} {l : List A} → Source b l → Source b (x ∷ l)
  source_later s = record { a = s.a; member = Memᴰ.tail s.member; gives = s.gives }

  source_cases : {b : B} {x : A} {l : List A} → (Memᴰ b (flat_map f l) → Source b l) → Memᴰ b (f x) ⊎ Memᴰ b (flat_map f l) → Source b (x ∷ l)
  source_cases {x = x} ih (inl m) = record { a = x; member = Memᴰ.head refl; gives = m }
  source_cases ih (inr m) = source_later (ih m)

  -- A member of the joined list is a member of one of them.
  pub flat_map_out : {b : B} (l : List A) → Memᴰ b (flat_map f l) → Source b l
  unfolding flat_map
  flat_map_out [] m = absurd (Memᴰ.not-nil m)
  flat_map_out (x ∷ l) m = source_cases (λ n. flat_map_out l n) (Memᴰ.append_cases (f x) m)

module _ {A : Type 0} (f : A → Bool) where
  -- a, if it passes the test
  abbrev pub single : A → List A
  single a = if f a then a ∷ [] else []

  -- the members that pass a test
  unfoldable pub keep : List A → List A
  unfolding flat_map
  keep l = flat_map single l

  single_out : {a b : A} (c : Bool) → Memᴰ b (if c then a ∷ [] else []) → (b ≡ a) × (c ≡ true)
  single_out true m = (Memᴰ.eq_of_singleton m, refl)
  single_out false m = absurd (Memᴰ.not-nil m)

  -- A member that passes the test is kept.
  pub keep_in : {a : A} {l : List A} → Memᴰ a l → f a ≡ true → Memᴰ a (keep l)
  unfolding keep
  keep_in m e = flat_map_in single m (rw e (Memᴰ.head refl))

  -- What is kept is a member and passes the test.
  pub keep_out : {a : A} (l : List A) → Memᴰ a (keep l) → Memᴰ a l × (f a ≡ true)
  unfolding keep
  keep_out l m =
      let s = flat_map_out single l m in
      let o = single_out (f s.a) s.gives in
      (Memᴰ.cast o.0 s.member, ap f o.0 ∙ o.1)

-- the numbers below n
unfoldable pub numbers : ℕ → List ℕ
unfolding tabulate
numbers n = tabulate (λ x. x) n

last_in : {x n : ℕ} → (x < n → Memᴰ x (numbers n)) → x < suc n → Dec (x ≡ n) → Memᴰ x (numbers (suc n))
unfolding numbers
last_in {n = n} ih h (yes e) = Memᴰ.append_right (numbers n) (Memᴰ.head e)
last_in {n = n} ih h (no e) = Memᴰ.append_left (n ∷ []) (ih (omega arith))

-- The list has every number below n,
pub numbers_in : {x : ℕ} (n : ℕ) → x < n → Memᴰ x (numbers n)
numbers_in zero h = absurd (omega arith)
numbers_in {x} (suc n) h = last_in (λ l. numbers_in n l) h (ℕ_discrete x n)

below_cases : {x n : ℕ} → (Memᴰ x (numbers n) → x < n) → Memᴰ x (numbers n) ⊎ Memᴰ x (n ∷ []) → x < suc n
below_cases ih (inl m) = omega (arith, ih m)
below_cases ih (inr m) = omega (arith, Memᴰ.eq_of_singleton m)

-- and no other.
pub numbers_out : {x : ℕ} (n : ℕ) → Memᴰ x (numbers n) → x < n
unfolding numbers
numbers_out zero m = absurd (Memᴰ.not-nil m)
numbers_out (suc n) m = below_cases (λ k. numbers_out n k) (Memᴰ.append_cases (numbers n) m)
