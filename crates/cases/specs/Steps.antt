-- The places to which steps lead from a place, as a list that computes: exactly these are its members.
use Rattle.std.specs.Prelude.{Bool, ◌&&◌, ℕ, suc, ltb, length}
use mathlib.Core.List.{List, [], ◌∷◌, ◌++◌, map}
use Rattle.code.specs.Definitions.Tables.{Table, size, word}
use Rattle.pair_theory.specs.Places.{Place, first_place, next_place}
use Rattle.pair_theory.specs.Bounded.{is_end}
use Rattle.cases.specs.Members.{keep, numbers}

module _ (t : Table) where
  -- p stands inside its word
  abbrev pub is_inside : Place → Bool
  is_inside p = ltb (suc p.k) (length (word t p.w))

  -- p is an end, and x may come after its word
  abbrev pub goes_on : Place → ℕ → Bool
  goes_on p x = is_end t p && t.follow x p.w

  abbrev pub steps_inside : Place → List Place
  steps_inside p = keep (λ q. is_inside p) (next_place p ∷ [])

  abbrev pub steps_across : Place → List Place
  steps_across p = map first_place (keep (goes_on p) (numbers (size t)))

  -- the places to which a step leads from p: the next of its word, or the first of a word that may follow
  unfoldable pub steps : Place → List Place
  unfolding keep numbers
  steps p = steps_inside p ++ steps_across p
