-- Lists of conditions: what is refused is unique, nothing is refused where none holds, and where the numbers ascend, as in the list of each operation but one, the
-- first that holds is the lowest.
use Rattle.std.specs.Prelude.{◌≡◌, refl, Bool, true, ◌&&◌, List, [], ◌∷◌, ◌++◌, map, ◌⊎◌, ℕ, ◌≤◌, ◌<◌, ltb}
use Rattle.std.proofs.Common.{sym, ◌∙◌, inl, inr, arith, ltb-true}
use Rattle.std.proofs.Math.Bool.{and-eq-true_iff}
use Rattle.code.specs.declared.Classes.{Classes}
use Rattle.code.specs.declared.Enlarged.{Enlarged}
use Rattle.code.specs.declared.Limits.{Limits}
use Rattle.code.specs.declared.Refusal.{Refusal}
use Rattle.code.specs.Definitions.Answers.{refusal_number}
use Rattle.code.specs.Definitions.NextWords.{naming_conditions, foretelling_conditions}
use Rattle.code.specs.Definitions.Operations.{Condition, FirstHolds, Lowest, NoneHolds, ban_conditions, encoding_conditions, reading_conditions, verdict_conditions}
use Rattle.code.specs.Definitions.Splitting.{splitting_conditions}

pub lowest_unique : (cs : List Condition) (r q : Refusal) → FirstHolds cs r → FirstHolds cs q → r ≡ q
lowest_unique [] r q h k = absurd h
lowest_unique (c ∷ cs) r q (inl h) (inl k) = h.1 ∙ sym k.1
lowest_unique (c ∷ cs) r q (inl h) (inr k) = absurd (k.0 h.0)
lowest_unique (c ∷ cs) r q (inr h) (inl k) = absurd (h.0 k.0)
lowest_unique (c ∷ cs) r q (inr h) (inr k) = lowest_unique cs r q h.1 k.1

pub lowest_none : (cs : List Condition) (r : Refusal) → FirstHolds cs r → NoneHolds cs → ⊥
lowest_none [] r h n = h
lowest_none (c ∷ cs) r (inl h) n = n.0 h.0
lowest_none (c ∷ cs) r (inr h) n = lowest_none cs r h.1 n.1

-- The numbers of the refusals are above n and ascend.
abbrev pub ascends_from : ℕ → List Condition → Bool
ascends_from n [] = true
ascends_from n (c ∷ cs) = ltb n (refusal_number c.refusal) && ascends_from (refusal_number c.refusal) cs

-- Some condition holds whose refusal has this number.
abbrev pub HoldsWith : List Condition → ℕ → Type 0
HoldsWith [] k = ⊥
HoldsWith (c ∷ cs) k = (c.holds × (k ≡ refusal_number c.refusal)) ⊎ HoldsWith cs k

holds_above : (n k : ℕ) (cs : List Condition) → ascends_from n cs ≡ true → HoldsWith cs k → n < k
holds_above n k [] a h = absurd h
holds_above n k (c ∷ cs) a (inl h) = let above = ltb-true n (refusal_number c.refusal) ((and-eq-true_iff _ _).0 a).0 in rw h.1 above
holds_above n k (c ∷ cs) a (inr h) =
    let both = (and-eq-true_iff (ltb n (refusal_number c.refusal)) (ascends_from (refusal_number c.refusal) cs)).0 a in
    omega (arith, ltb-true n (refusal_number c.refusal) both.0, holds_above (refusal_number c.refusal) k cs both.1 h)

-- 01: "Where several hold, the lowest number is returned"
pub lowest_least : (n k : ℕ) (cs : List Condition) (r : Refusal) → ascends_from n cs ≡ true → Lowest cs r → HoldsWith cs k → refusal_number r ≤ k
lowest_least n k [] r a h w = absurd h
lowest_least n k (c ∷ cs) r a (inl h) (inl w) = rw (h.1, w.1) (omega arith)
lowest_least n k (c ∷ cs) r a (inl h) (inr w) =
    let both = (and-eq-true_iff (ltb n (refusal_number c.refusal)) (ascends_from (refusal_number c.refusal) cs)).0 a in
    let above = holds_above (refusal_number c.refusal) k cs both.1 w in
    rw h.1 (omega (arith, above))
lowest_least n k (c ∷ cs) r a (inr h) (inl w) = absurd (h.0 w.0)
lowest_least n k (c ∷ cs) r a (inr h) (inr w) =
    let both = (and-eq-true_iff (ltb n (refusal_number c.refusal)) (ascends_from (refusal_number c.refusal) cs)).0 a in
    lowest_least (refusal_number c.refusal) k cs r both.1 h.1 w

-- The lists of the operations ascend, by computing.
module _ (l : Limits) (e : Enlarged) where
  pub bans_ascend : (s : List ℕ) → ascends_from 0 (ban_conditions l e s) ≡ true
  bans_ascend s = refl

  pub encoding_ascends : (s b : List ℕ) → ascends_from 0 (encoding_conditions l e s b) ≡ true
  encoding_ascends s b = refl

  pub reading_ascends : (m f g w : List ℕ) → ascends_from 0 (reading_conditions l e m f g w) ≡ true
  reading_ascends m f g w = refl

  pub verdict_ascends : (m f g w : List ℕ) → ascends_from 0 (verdict_conditions l e m f g w) ≡ true
  verdict_ascends m f g w = refl

  pub splitting_ascends : (c : Classes) (s b m f g w : List ℕ) → ascends_from 0 (splitting_conditions l e c s b m f g w) ≡ true
  splitting_ascends c s b m f g w = refl

  -- The list of request 7 does not: "the order is 8, 11, 13, 21, 12 (first N symbols only), 14".
  pub naming_order : (m w : List ℕ) → map (λ (c : Condition). refusal_number c.refusal) (naming_conditions l e m w ++ foretelling_conditions l e m) ≡ 8 ∷ 11 ∷ 13 ∷ 21 ∷ 12 ∷ 14 ∷ []
  naming_order m w = refl
