-- What is printed for a sheet and a ban list is unique: whatever judgement is right for them by the definitions, the program prints that one.
use Rattle.std.specs.Prelude.{◌≡◌, refl, List, ℕ, length, Err, Ok, Result}
use Rattle.std.proofs.Common.{sym, ap, ◌∙◌, subst}
use Rattle.code.specs.declared.Enlargement.{Enlargement}
use Rattle.code.specs.declared.Refusal.{Refusal}
use Rattle.code.specs.declared.Verdict.{Verdict}
use Rattle.code.specs.declared.Verdict.TheVariants.{Ambiguous as Two-ways, Finite, Unbounded}
use Rattle.code.specs.Definitions.Tables.{Table}
use Rattle.code.specs.Definitions.Answers.{VerdictMeans}
use Rattle.code.specs.Definitions.Enlarged.{plain_of, original_table}
use Rattle.code.specs.Definitions.Operations.{written}
use Rattle.code.specs.Definitions.Sheets.{limits, taken}
use Rattle.code.specs.Laws.Readings.{ambiguous_unique}
use Rattle.code.proofs.Laws.Verdicts.{verdict_unique}
use Rattle.ban_meaning.specs.Answered.{enlarges_unique}
use Rattle.printing.specs.Printed.{printed}
use Rattle.sheet.proofs.Laws.Either.{not_both, one_refusal}
use Rattle.verdict.specs.Answers.{Gives, sheet_refused, sheet_accepted, RightOf, RightFor, Answers}

-- A sheet and a list give one thing.
pub gives_unique : {sheet list : List ℕ} {x y : Enlargement} → Gives sheet list x → Gives sheet list y → x ≡ y
gives_unique {sheet} (sheet_refused a p) (sheet_refused b q) =
    p ∙ ap (λ (r : Refusal). record { answer = Err r; enlarged = plain_of limits (taken limits sheet).code }) (one_refusal a b) ∙ sym q
gives_unique (sheet_refused a p) (sheet_accepted b q) = absurd (not_both b a)
gives_unique (sheet_accepted a p) (sheet_refused b q) = absurd (not_both a b)
gives_unique (sheet_accepted a p) (sheet_accepted b q) = enlarges_unique p q

module _ (x s u x' s' u' : List ℕ) where
  -- Only an ambiguous verdict shows lists, and those are unique.
  lists_once : (t : Table) (v : Verdict) → VerdictMeans t x s u v → VerdictMeans t x' s' u' v → printed (Ok v) x s u ≡ printed (Ok v) x' s' u'
  lists_once t (Two-ways a b c) p q =
      let same = ambiguous_unique p.0 q.0 in
      rw (same.0, same.1, same.2)
  lists_once t (Finite d) p q = refl
  lists_once t Unbounded p q = refl

  verdict_once : (t : Table) (v w : Verdict) → VerdictMeans t x s u v → VerdictMeans t x' s' u' w → printed (Ok v) x s u ≡ printed (Ok w) x' s' u'
  verdict_once t v w p q =
      let same = verdict_unique t x s u x' s' u' v w p q in
      lists_once t v p (rw same q) ∙ rw same

  right_once : (g : Enlargement) (j k : Result Verdict Refusal) → RightOf g x s u j → RightOf g x' s' u' k → printed j x s u ≡ printed k x' s' u'
  right_once g (Ok v) (Ok w) p q = verdict_once (original_table g.enlarged) v w p.1 q.1
  right_once g (Ok v) (Err r) p q = absurd (not_both p.0 q)
  right_once g (Err r) (Ok w) p q = absurd (not_both q.0 p)
  right_once g (Err r) (Err i) p q =
      let same : r ≡ i = cc in
      rw same

  -- Two judgements that are right for a sheet and a list print the same.
  pub printed_once : (sheet list : List ℕ) (j k : Result Verdict Refusal) → RightFor sheet list x s u j → RightFor sheet list x' s' u' k → printed j x s u ≡ printed k x' s' u'
  printed_once sheet list j k p q =
      right_once p.given j k p.right (subst (λ (g : Enlargement). RightOf g x' s' u' k) (gives_unique q.gives p.gives) q.right)

-- The end-to-end statement by the definitions alone: whatever judgement is right for the sheet and the list, its printed result is what stands in the output buffer.
pub answer_right : {sheet list o o' : List ℕ} {r : ℕ} → Answers sheet list o o' r → (x s u : List ℕ) (j : Result Verdict Refusal) → RightFor sheet list x s u j
    → (r ≡ length (printed j x s u)) × (o' ≡ written (printed j x s u) o)
answer_right {sheet} {list} {o} a x s u j right =
    let same = printed_once a.message a.first a.second x s u sheet list a.judgement j a.right right in
    (a.count ∙ ap length same, a.out ∙ ap (λ (text : List ℕ). written text o) same)
