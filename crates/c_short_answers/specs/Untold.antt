-- Where an answer is too short to be told: what an operation without room in any buffer refuses is refused, and where it refuses nothing 13 is.
use Rattle.std.specs.Prelude.{◌≡◌, refl, List, [], ◌∷◌, ◌++◌, ℕ, Err, Ok, Result}
use Rattle.std.proofs.Common.{inl, inr, arith}
use Rattle.c_answers.specs.Answers.{short_number}
use Rattle.code.specs.declared.Classes.{Classes}
use Rattle.code.specs.declared.Enlarged.{Enlarged}
use Rattle.code.specs.declared.Refusal.{Refusal}
use Rattle.code.specs.declared.Refusal.TheVariants.{ShortBuffer}
use Rattle.code.specs.declared.Readings.{Readings}
use Rattle.code.specs.declared.Verdict.{Verdict}
use Rattle.code.specs.declared.ByteCount.{ByteCount}
use Rattle.code.specs.declared.SymbolCount.{SymbolCount}
use Rattle.code.specs.Definitions.Answers.{refusal_number}
use Rattle.code.specs.Definitions.NextWords.{naming_conditions, NamesNext}
use Rattle.code.specs.Definitions.Operations.{Condition, Lowest, NoneHolds, encoding_conditions, reading_conditions, verdict_conditions, Encodes, ReadsMessage, Judges}
use Rattle.code.specs.Definitions.Sheets.{limits}
use Rattle.code.specs.Definitions.Splitting.{splitting_conditions, SplitsText}

-- The answer is too short to be told, whatever the other buffers are.
abbrev pub no_answer : Condition
no_answer = record { refusal = ShortBuffer; holds = Unit }

-- The number of the refusal where the answer is too short: the operation's own that come before 13, or 13.
pub record Untold (conditions : List Condition) (r : ℕ) : Type 0 where
  pub refusal : Refusal
  pub lowest : Lowest (conditions ++ (no_answer ∷ [])) refusal
  pub number : r ≡ refusal_number refusal

lowest_more : (r : Refusal) (cs : List Condition) → Lowest cs r → Lowest (cs ++ (no_answer ∷ [])) r
lowest_more r [] h = absurd h
lowest_more r (c ∷ cs) (inl h) = inl h
lowest_more r (c ∷ cs) (inr h) = inr (h.0, lowest_more r cs h.1)

none_more : (cs : List Condition) → NoneHolds cs → Lowest (cs ++ (no_answer ∷ [])) ShortBuffer
none_more [] h = inl (tt, refl)
none_more (c ∷ cs) h = inr (h.0, none_more cs h.1)

untold_refused : (r : Refusal) {n : ℕ} (cs : List Condition) → Lowest cs r → n ≡ refusal_number r → Untold cs n
untold_refused r cs h e = record { refusal = r; lowest = lowest_more r cs h; number = e }

untold_none : {n : ℕ} (cs : List Condition) → NoneHolds cs → n ≡ short_number → Untold cs n
untold_none cs h e = record { refusal = ShortBuffer; lowest = none_more cs h; number = e }

-- The number of an answer that cannot be told
abbrev pub untold_number : {T : Type 0} → Result T Refusal → ℕ
untold_number (Ok x) = short_number
untold_number (Err r) = refusal_number r

pub untold_encoding_lem : {v : Enlarged} {s b : List ℕ} {e : Result SymbolCount Refusal} {n : ℕ} → Encodes limits v s [] b e → n ≡ untold_number e → Untold (encoding_conditions limits v s []) n
untold_encoding_lem (Encodes.refused {r} h k) = untold_refused r _ h
untold_encoding_lem (Encodes.encoded h k w) = untold_none _ h

pub untold_splitting_lem : {v : Enlarged} {classes : Classes} {s b m f g w : List ℕ} {e : Result ByteCount Refusal} {n : ℕ} → SplitsText limits v classes s [] [] [] [] [] b m f g w e
    → n ≡ untold_number e → Untold (splitting_conditions limits v classes s [] [] [] [] []) n
untold_splitting_lem (SplitsText.refused {r} h i j k l m) = untold_refused r _ h
untold_splitting_lem (SplitsText.split h d c o i j k l) = untold_none _ h

-- Reading needs an entry of the working buffer even for the empty message, so it does not get as far as 14.
pub untold_reading_lem : {v : Enlarged} {m f g w : List ℕ} {e : Result Readings Refusal} {n : ℕ} → ReadsMessage limits v m [] [] [] f g w e → n ≡ untold_number e
    → Untold (reading_conditions limits v m [] [] []) n
untold_reading_lem (ReadsMessage.refused {r} h i j k) = untold_refused r _ h
untold_reading_lem (ReadsMessage.unreadable h none i j k) = absurd (h.1.1.1.0 (inr (inr (omega arith))))
untold_reading_lem (ReadsMessage.one h only l i j k) = untold_none _ h
untold_reading_lem (ReadsMessage.two h two l m i j k) = untold_none _ h

-- Naming needs the verdict's working buffer, so it does not get as far as 21, 12 and 14.
pub untold_naming_lem : {v : Enlarged} {m w : List ℕ} {e : Result ℕ Refusal} {n : ℕ} → NamesNext limits v m [] w e → n ≡ untold_number e → Untold (naming_conditions limits v m []) n
untold_naming_lem (NamesNext.refused {r} h k) = untold_refused r _ h
untold_naming_lem (NamesNext.unnamed h f k) = absurd (h.1.1.0 (omega arith))
untold_naming_lem (NamesNext.named h n f k) = untold_none _ h

pub untold_verdict_lem : {v : Enlarged} {m f g w : List ℕ} {e : Result Verdict Refusal} {n : ℕ} → Judges limits v [] [] [] [] m f g w e → n ≡ untold_number e
    → Untold (verdict_conditions limits v [] [] [] []) n
untold_verdict_lem (Judges.refused {r} h i j k l) = untold_refused r _ h
untold_verdict_lem (Judges.judged x s u h means shown k) = untold_none _ h
