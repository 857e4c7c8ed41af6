-- What `decipher::verdict` answers for the twelve types, in buffers that are long enough, and what these then begin with.
use Rattle.std.specs.Prelude.{◌≡◌, refl, List, ℕ, length, take, Ok, Result}
use Rattle.code.specs.declared.Verdict.{Verdict}
use Rattle.code.specs.declared.Refusal.{Refusal}
use Rattle.code.specs.Definitions.Enlarged.{plain_of}
use Rattle.code.specs.Definitions.Operations.{Judges}
use Rattle.code.specs.Definitions.Sheets.{limits}
use Rattle.code.specs.Laws.Readings.{ambiguous_unique}
use Rattle.decipher.specs.Buffers.{Room}
use Rattle.decipher.specs.Kinds.{verdict_answered}
use Rattle.decipher.specs.Shown.{judged_ambiguous}
use Rattle.ban_meaning.specs.Given.{plain_original}
use Rattle.turkish_verdicts.specs.Cases.{twelve, message_twelve, first_twelve, second_twelve}
use Rattle.turkish_verdicts.proofs.Cases.{twelve_ambiguous}
use Rattle.turkish_verdicts.specs.Answered.{verdict_twelve, twelve_lists}

module _ {m f g w m' f' g' w' : List ℕ} (room : Room (length m) (length f) (length g) (length w)) {r : Result Verdict Refusal}
    (judges : Judges limits (plain_of limits twelve) m f g w m' f' g' w' r) where
  pub twelve_answered : r ≡ Ok verdict_twelve
  twelve_answered =
      (verdict_answered twelve_lists room judges verdict_twelve).1
      (record { x = message_twelve; s = first_twelve; u = second_twelve; means = rw (plain_original limits twelve) (twelve_ambiguous, refl, refl, refl) })

  pub twelve_shown : (take 5 m' ≡ message_twelve) × (take 2 f' ≡ first_twelve) × (take 2 g' ≡ second_twelve)
  twelve_shown = ambiguous_unique (rw (plain_original limits twelve) at (judged_ambiguous (rw twelve_answered at judges))) twelve_ambiguous
