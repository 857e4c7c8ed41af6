-- Lists of the same records get the same answer.
use Rattle.std.specs.Prelude.{◌≡◌, refl, List, [], ◌∷◌, ◌↔◌, ℕ, ◌≤◌, length, Err}
use Rattle.std.proofs.Common.{sym, ap, ◌∙◌, inl, inr, arith}
use Rattle.code.specs.declared.Enlarged.{Enlarged}
use Rattle.code.specs.declared.Enlargement.{Enlargement}
use Rattle.code.specs.declared.Limits.{Limits}
use Rattle.code.specs.declared.Refusal.{Refusal}
use Rattle.code.specs.Definitions.BanLists.{bans_of}
use Rattle.code.specs.Definitions.Operations.{Condition, Lowest, NoneHolds, ban_conditions, Enlarges, refused, enlarged}
use Rattle.code.specs.Laws.Conditions.{lowest_unique, lowest_none}
use Rattle.ban_meaning.specs.SameBans.{SameRecords}
use Rattle.ban_meaning.proofs.SameBans.{records_bans}
use Rattle.ban_meaning.proofs.Wrong.{refused16_same}
use Rattle.ban_meaning.specs.Copied.{refused17_same}

-- The conditions of the two lists hold for the same refusals.
abbrev SameConditions : List Condition → List Condition → Type 0
SameConditions [] [] = Unit
SameConditions [] (d ∷ ds) = ⊥
SameConditions (c ∷ cs) [] = ⊥
SameConditions (c ∷ cs) (d ∷ ds) = (c.refusal ≡ d.refusal) × (c.holds ↔ d.holds) × SameConditions cs ds

lowest_same : (cs ds : List Condition) → SameConditions cs ds → (r : Refusal) → Lowest cs r → Lowest ds r
lowest_same [] [] s r a = a
lowest_same [] (d ∷ ds) s r a = absurd s
lowest_same (c ∷ cs) [] s r a = absurd s
lowest_same (c ∷ cs) (d ∷ ds) s r (inl a) = inl (s.1.0 a.0, a.1 ∙ s.0)
lowest_same (c ∷ cs) (d ∷ ds) s r (inr a) = inr ((λ h. a.0 (s.1.1 h)), lowest_same cs ds s.2 r a.1)

none_same : (cs ds : List Condition) → SameConditions cs ds → NoneHolds cs → NoneHolds ds
none_same [] [] s n = tt
none_same [] (d ∷ ds) s n = absurd s
none_same (c ∷ cs) [] s n = absurd s
none_same (c ∷ cs) (d ∷ ds) s n = ((λ h. n.0 (s.1.1 h)), none_same cs ds s.2 n.1)

module _ (l : Limits) (e : Enlarged) (s u : List ℕ) (s-short : length s ≤ l.bytes) (u-short : length u ≤ l.bytes) (same : SameRecords s u) where
  conditions_same : SameConditions (ban_conditions l e s) (ban_conditions l e u)
  conditions_same =
      let wrong = refused16_same e.code.count s u same in
      let past = refused17_same l e.code (bans_of s) (bans_of u) (records_bans s u same) in (
        refl,
        ((λ h. absurd (omega arith)), λ h. absurd (omega arith)),
        (
          refl,
          ((λ h. h), λ h. h),
          (
            refl,
            ((λ h. sym wrong ∙ h), λ h. wrong ∙ h),
            (
              refl,
              ((λ h. sym past ∙ h), λ h. past ∙ h),
              tt,
            ),
          ),
        ),
      )

  -- Two lists within the length limit, with the same records, get the same answer: both are accepted, or both refused with one number.
  pub answers_same : {x y : Enlargement} → Enlarges l e s x → Enlarges l e u y → x.answer ≡ y.answer
  answers_same (refused {r} h p) (refused {r = i} k q) =
      ap (λ (z : Enlargement). z.answer) p
      ∙ ap (λ (j : Refusal). Err j) (lowest_unique (ban_conditions l e u) r i (lowest_same (ban_conditions l e s) (ban_conditions l e u) conditions_same r h) k)
      ∙ sym (ap (λ (z : Enlargement). z.answer) q)
  answers_same (refused {r} h p) (enlarged k q) = absurd (lowest_none (ban_conditions l e u) r (lowest_same (ban_conditions l e s) (ban_conditions l e u) conditions_same r h) k)
  answers_same (enlarged h p) (refused {r} k q) = absurd (lowest_none (ban_conditions l e u) r k (none_same (ban_conditions l e s) (ban_conditions l e u) conditions_same h))
  answers_same (enlarged h p) (enlarged k q) = ap (λ (z : Enlargement). z.answer) p ∙ sym (ap (λ (z : Enlargement). z.answer) q)
