-- Of a value that a sheet and a list give, in buffers that are long enough, each kind of verdict is answered exactly when its definition holds of the table of
-- original words: the answer is a verdict that holds, and a table has only one. Such a value is never refused with 8.
use Rattle.std.specs.Prelude.{◌≡◌, refl, List, [], ◌↔◌, ℕ, length, Err, Ok, Result}
use Rattle.std.proofs.Common.{ap, ◌∙◌, inl, inr, arith}
use Rattle.code.specs.declared.Enlarged.{Enlarged}
use Rattle.code.specs.declared.Refusal.{Refusal}
use Rattle.code.specs.declared.Refusal.TheVariants.{NotFromSheet, ShortBuffer}
use Rattle.code.specs.declared.SymbolCount.{SymbolCount}
use Rattle.code.specs.declared.WordCount.{WordCount}
use Rattle.code.specs.declared.Verdict.{Verdict}
use Rattle.code.specs.declared.Verdict.TheVariants.{Ambiguous as Two-ways, Finite, Unbounded}
use Rattle.code.specs.Definitions.Answers.{VerdictMeans}
use Rattle.code.specs.Definitions.Delays.{Delay, WithoutBound}
use Rattle.code.specs.Definitions.Enlarged.{original_table}
use Rattle.code.specs.Definitions.Operations.{FromLists, Lowest, verdict_conditions, Judges, refused, judged}
use Rattle.code.specs.Definitions.Readings.{Ambiguous, Decipherable}
use Rattle.code.specs.Definitions.Sheets.{limits}
use Rattle.code.specs.Definitions.Tables.{Table}
use Rattle.code.proofs.Laws.Verdicts.{verdict_unique}
use Rattle.decipher.specs.Buffers.{Short, Room, room_not_short}

-- The verdict v holds of the table, by some message and readings.
pub record Holds (t : Table) (v : Verdict) : Type 0 where
  pub x : List ℕ
  pub s : List ℕ
  pub u : List ℕ
  pub means : VerdictMeans t x s u v

-- Some message and readings show that the table is ambiguous.
pub record IsAmbiguous (t : Table) : Type 0 where
  pub m : List ℕ
  pub s : List ℕ
  pub u : List ℕ
  pub is : Ambiguous t m s u

-- The answer is the verdict ambiguous, with some lengths.
pub record SaysAmbiguous (r : Result Verdict Refusal) : Type 0 where
  pub n : SymbolCount
  pub a : WordCount
  pub b : WordCount
  pub is : r ≡ Ok (Two-ways n a b)

-- The answer is a verdict that holds.
pub record Answered (t : Table) (r : Result Verdict Refusal) : Type 0 where
  pub v : Verdict
  pub is : r ≡ Ok v
  pub holds : Holds t v

module _ {e : Enlarged} (lists : FromLists limits e) (m f g w : List ℕ) (r : Refusal) where
  lowest_13 : Lowest (verdict_conditions limits e m f g w) r → (r ≡ ShortBuffer) × Short (length m) (length f) (length g) (length w)
  lowest_13 (inl h) = absurd (h.0 lists)
  lowest_13 (inr (_, inl h)) = (h.1, h.0)
  lowest_13 (inr (_, inr h)) = absurd h.1

module _ {e : Enlarged} {m f g w m' f' g' w' : List ℕ} (lists : FromLists limits e) where
  -- A value that a sheet and a list give is refused only with 13, for a buffer that is too short.
  pub only_13 : {r : Refusal} → Judges limits e m f g w m' f' g' w' (Err r) → (r ≡ ShortBuffer) × Short (length m) (length f) (length g) (length w)
  only_13 {r} (refused h _ _ _ _) = lowest_13 lists m f g w r h

  -- It is never refused with 8.
  pub never_8 : Judges limits e m f g w m' f' g' w' (Err NotFromSheet) → ⊥
  never_8 h =
      let e = (only_13 h).0 in
      let z : ◌≡◌ {A = ℕ} 0 1 = cc in
      omega arith

  module _ (room : Room (length m) (length f) (length g) (length w)) where
    -- The answer is a verdict that holds.
    pub answered : {r : Result Verdict Refusal} → Judges limits e m f g w m' f' g' w' r → Answered (original_table e) r
    answered (refused {r = q} h _ _ _ _) = absurd (room_not_short room (lowest_13 lists m f g w q h).1)
    answered (judged {v = v} x s u h means _ _) = record { v = v; is = refl; holds = record { x = x; s = s; u = u; means = means } }

    module _ {r : Result Verdict Refusal} (judges : Judges limits e m f g w m' f' g' w' r) where
      answer_holds : {v : Verdict} → r ≡ Ok v → Answered (original_table e) r → Holds (original_table e) v
      answer_holds {v} e h = let z : h.v ≡ v = cc in rw z at h.holds

      -- A verdict is answered exactly if it holds.
      pub verdict_answered : (v : Verdict) → (r ≡ Ok v) ↔ Holds (original_table e) v
      verdict_answered v = (λ e. answer_holds e (answered judges), λ h. by h (answered judges))
        where
          by : Holds (original_table e) v → Answered (original_table e) r → r ≡ Ok v
          by h y =
              let z = y.holds in
              y.is ∙ ap Ok (verdict_unique (original_table e) z.x z.s z.u h.x h.s h.u y.v v z.means h.means)

      is_ambiguous : {n : SymbolCount} {a b : WordCount} → Holds (original_table e) (Two-ways n a b) → IsAmbiguous (original_table e)
      is_ambiguous h = record { m = h.x; s = h.s; u = h.u; is = h.means.0 }

      says_ambiguous : IsAmbiguous (original_table e) → SaysAmbiguous r
      says_ambiguous y =
          let n : SymbolCount = record { 0 = length y.m } in
          let a : WordCount = record { 0 = length y.s } in
          let b : WordCount = record { 0 = length y.u } in
          let h : Holds (original_table e) (Two-ways n a b) = record { x = y.m; s = y.s; u = y.u; means = (y.is, refl, refl, refl) } in
          record { n = n; a = a; b = b; is = (verdict_answered (Two-ways n a b)).1 h }

      -- Ambiguous is answered exactly if the code is ambiguous.
      pub ambiguous_answered : SaysAmbiguous r ↔ IsAmbiguous (original_table e)
      ambiguous_answered = (λ y. is_ambiguous ((verdict_answered (Two-ways y.n y.a y.b)).0 y.is), says_ambiguous)

      -- A delay is answered exactly if the code is decipherable and this is its delay.
      pub finite_answered : (d : SymbolCount) → (r ≡ Ok (Finite d)) ↔ (Decipherable (original_table e) × Delay (original_table e) d.0)
      finite_answered d = (λ e. ((verdict_answered (Finite d)).0 e).means, λ h. (verdict_answered (Finite d)).1 (record { x = []; s = []; u = []; means = h }))

      -- Unbounded is answered exactly if the code is decipherable and without bound.
      pub unbounded_answered : (r ≡ Ok Unbounded) ↔ (Decipherable (original_table e) × WithoutBound (original_table e))
      unbounded_answered = (λ e. ((verdict_answered Unbounded).0 e).means, λ h. (verdict_answered Unbounded).1 (record { x = []; s = []; u = []; means = h }))
