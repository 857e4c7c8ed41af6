-- What the list of all readings of a message says of its only reading, and of its first two.
use Rattle.std.specs.Prelude.{◌≡◌, refl, Bool, true, false, ◌&&◌, ◌⊎◌, ℕ}
use Rattle.std.proofs.Common.{ap, inl, inr}
use Rattle.std.proofs.lemmas.Bool.{false≢true}
use Rattle.std.proofs.Math.Bool.{and-eq-true_iff}
use mathlib.Core.List.Memᴰ
use mathlib.Core.List.{List, [], ◌∷◌, Memᴰ}
use Rattle.code.specs.Definitions.Lists.{every}
use Rattle.code.specs.Definitions.Tables.{Table}
use Rattle.code.specs.Definitions.Orders.{Lex}
use Rattle.code.specs.Definitions.Readings.{OnlyReading, FirstTwo}
use Rattle.code.specs.Laws.Sequences.{Plain}
use Rattle.cases.specs.Members.{every_member}
use Rattle.cases.specs.Comparing.{equal, equal-true, before, before-true}
use Rattle.cases.specs.Enumeration.{readings, reading_in, reading_out}

-- s is all that the list has.
unfoldable pub only_of : List (List ℕ) → List ℕ → Bool
unfolding equal
only_of [] s = false
only_of (a ∷ []) s = equal a s
only_of (a ∷ b ∷ l) s = false

-- The list opens with s and u, in dictionary order, and all the rest comes after u.
unfoldable pub first_two_of : List (List ℕ) → List ℕ → List ℕ → Bool
unfolding equal before every
first_two_of [] s u = false
first_two_of (a ∷ []) s u = false
first_two_of (a ∷ b ∷ l) s u = (equal a s && equal b u) && (before s u && every (before u) l)

only_list : (l : List (List ℕ)) (s : List ℕ) → only_of l s ≡ true → l ≡ s ∷ []
unfolding only_of
only_list [] s e = absurd (false≢true e)
only_list (a ∷ []) s e = ap (λ (z : List ℕ). z ∷ []) (equal-true a s e)
only_list (a ∷ b ∷ l) s e = absurd (false≢true e)

record Ascending (l : List (List ℕ)) (s u : List ℕ) : Type 0 where
  rest : List (List ℕ)
  opens : l ≡ s ∷ u ∷ rest
  order : Lex s u
  later : every (before u) rest ≡ true

two_list : (a b : List ℕ) (l : List (List ℕ)) (s u : List ℕ) → ((equal a s && equal b u) && (before s u && every (before u) l)) ≡ true → Ascending (a ∷ b ∷ l) s u
two_list a b l s u e =
    let h = (and-eq-true_iff (equal a s && equal b u) (before s u && every (before u) l)).0 e in
    let i = (and-eq-true_iff (equal a s) (equal b u)).0 h.0 in
    let j = (and-eq-true_iff (before s u) (every (before u) l)).0 h.1 in
    let first = equal-true a s i.0 in
    let second = equal-true b u i.1 in
    record { rest = l; opens = rw (first, second); order = before-true s u j.0; later = j.1 }

ascending : (l : List (List ℕ)) (s u : List ℕ) → first_two_of l s u ≡ true → Ascending l s u
unfolding first_two_of
ascending [] s u e = absurd (false≢true e)
ascending (a ∷ []) s u e = absurd (false≢true e)
ascending (a ∷ b ∷ l) s u e = two_list a b l s u e

module _ {t : Table} (plain : Plain t) where
  -- What is all of the list is the only reading.
  pub only_means : (m s : List ℕ) → only_of (readings t m) s ≡ true → OnlyReading t m s
  only_means m s e =
      let l = only_list (readings t m) s e in
      record { reads = reading_out t plain.free m (rw l (Memᴰ.head refl)); only = λ u r. Memᴰ.eq_of_singleton (rw l at (reading_in t plain.some r)) }

  -- What opens the list in order, before all the rest, are the first two readings.
  pub first_two_means : (m s u : List ℕ) → first_two_of (readings t m) s u ≡ true → FirstTwo t m s u
  first_two_means m s u e =
      let a = ascending (readings t m) s u e in
      record {
        first = reading_out t plain.free m (rw a.opens (Memᴰ.head refl));
        second = reading_out t plain.free m (rw a.opens (Memᴰ.tail (Memᴰ.head refl)));
        order = a.order;
        later = λ v r d f. by a v d f (Memᴰ.cases_cons (rw a.opens at (reading_in t plain.some r)));
      }
    where
      past : (a : Ascending (readings t m) s u) (v : List ℕ) → (v ≡ u → ⊥) → (v ≡ u) ⊎ Memᴰ v a.rest → Lex u v
      past a v f (inl h) = absurd (f h)
      past a v f (inr i) = before-true u v (every_member (before u) a.later i)

      by : (a : Ascending (readings t m) s u) (v : List ℕ) → (v ≡ s → ⊥) → (v ≡ u → ⊥) → (v ≡ s) ⊎ Memᴰ v (u ∷ a.rest) → Lex u v
      by a v d f (inl h) = absurd (d h)
      by a v d f (inr i) = past a v f (Memᴰ.cases_cons i)
