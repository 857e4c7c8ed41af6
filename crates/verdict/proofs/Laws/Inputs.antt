-- An input that fills its buffer is longer than a sheet may be, so it is refused 1, however long it is; and so is a ban list, if the sheet is accepted.
use Rattle.std.specs.Prelude.{Err, Ok, Result}
use mathlib.Core.Path.{◌≡◌, refl, sym, ap, ◌∙◌}
use mathlib.Core.List.{List}
use mathlib.Core.Logic.{inl}
use Prim.Native.Nat.{ℕ, ◌<◌}
use native.Mathlib.Omega.{arith}
use lib.ListN.{length, take}
use Rattle.io.specs.Counts.{IsPrefixLen}
use Rattle.code.specs.declared.Enlargement.{Enlargement}
use Rattle.code.specs.declared.Refusal.{Refusal}
use Rattle.code.specs.declared.Refusal.TheVariants.{SheetLength}
use Rattle.code.specs.declared.Taken.{Taken}
use Rattle.code.specs.declared.Verdict.{Verdict}
use Rattle.code.specs.Definitions.Enlarged.{plain_of, blank_enlarged}
use Rattle.code.specs.Definitions.Operations.{refused}
use Rattle.code.specs.Definitions.Sheets.{limits, taken}
use Rattle.sheet.proofs.Laws.Taking.{way_long}
use Rattle.sheet.proofs.Laws.Either.{not_both}
use Rattle.verdict.specs.Answers.{Gives, sheet_refused, sheet_accepted, RightOf, RightFor, Answers, AnswersInput}
use Rattle.verdict.specs.Unique.{gives_unique}

by_kind : (g : Enlargement) (x s u : List ℕ) (j : Result Verdict Refusal) {r : Refusal} → RightOf g x s u j → g.answer ≡ Err r → j ≡ Err r
by_kind g x s u (Ok v) right answer = absurd (not_both right.0 answer)
by_kind g x s u (Err i) right answer = cc (right, answer)

module _ {sheet list : List ℕ} where
  -- What is refused is answered by its refusal.
  refusal_right : {g : Enlargement} {r : Refusal} → Gives sheet list g → g.answer ≡ Err r → {x s u : List ℕ} {j : Result Verdict Refusal} → RightFor sheet list x s u j → j ≡ Err r
  refusal_right gives answer {x} {s} {u} {j} right =
      by_kind right.given x s u j right.right (ap (λ (e : Enlargement). e.answer) (gives_unique right.gives gives) ∙ answer)

  long_sheet : limits.bytes < length sheet → Gives sheet list (record { answer = Err SheetLength; enlarged = plain_of limits (taken limits sheet).code })
  long_sheet long = sheet_refused (sym (ap (λ (t : Taken). t.answer) (way_long sheet long))) refl

  long_list : (taken limits sheet).answer ≡ Ok tt → limits.bytes < length list → Gives sheet list (record { answer = Err SheetLength; enlarged = blank_enlarged limits })
  long_list accepted long = sheet_accepted accepted (refused (inl (long, refl)) refl)

pub input_answered : (input : List ℕ) (n : ℕ) (file : List ℕ) (k : ℕ) {o o' : List ℕ} {r : ℕ} → IsPrefixLen n input → IsPrefixLen k file → limits.bytes < length input → limits.bytes < length file → Answers (take n input) (take k file) o o' r
    → AnswersInput input n file k o o' r
input_answered input n file k n-counts k-counts long file-long a =
    record {
      answers = a;
      full = λ all. refusal_right (long_sheet (omega arith)) refl a.right;
      list_full = λ accepted all. refusal_right (long_list accepted (omega arith)) refl a.right;
    }
