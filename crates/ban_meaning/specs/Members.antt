-- Whether some element of a list passes a test depends on its elements alone, not on their order or on repeats.
use Rattle.std.specs.Prelude.{◌≡◌, refl, Bool, true, ◌⊎◌}
use Rattle.std.proofs.Common.{sym, ap, ◌∙◌, inl, inr}
use Rattle.std.proofs.lemmas.Bool.{false≢true}
use mathlib.Core.List.{List, [], ◌∷◌, Memᴰ}
use Rattle.code.specs.Definitions.Lists.{any}
use Rattle.code.specs.Laws.Below.{or_cases, or_left, or_right}
use Rattle.ban_theory.specs.Enlargements.{both_ways}

module _ {A : Type 0} where
  -- Every element of l stands in k.
  abbrev pub Among : List A → List A → Type 0
  Among l k = (a : A) → Memᴰ a l → Memᴰ a k

  -- Each of the two has the elements of the other.
  pub record SameElements (l k : List A) : Type 0 where
    pub there : Among l k
    pub back : Among k l

  module _ (p : A → Bool) where
    member_passes : {a : A} {l : List A} → Memᴰ a l → p a ≡ true → any p l ≡ true
    unfolding any
    member_passes (Memᴰ.head {x} {xs} h) e = or_left (p x) (any p xs) (sym (ap p h) ∙ e)
    member_passes (Memᴰ.tail {x} {xs} m) e = or_right (p x) (any p xs) (member_passes m e)

    among_step : {x : A} {l k : List A} → Among (x ∷ l) k → (Among l k → any p l ≡ true → any p k ≡ true) → (p x ≡ true) ⊎ (any p l ≡ true) → any p k ≡ true
    among_step {x} f ih (inl e) = member_passes (f x (Memᴰ.head refl)) e
    among_step f ih (inr e) = ih (λ a m. f a (Memᴰ.tail m)) e

    among_any : (l : List A) {k : List A} → Among l k → any p l ≡ true → any p k ≡ true
    unfolding any
    among_any [] f e = absurd (false≢true e)
    among_any (x ∷ l) f e = among_step f (among_any l) (or_cases (p x) (any p l) e)

    pub any_same : {l k : List A} → SameElements l k → any p l ≡ any p k
    any_same {l} {k} s = both_ways (any p l) (any p k) (among_any l s.there) (among_any k s.back)
