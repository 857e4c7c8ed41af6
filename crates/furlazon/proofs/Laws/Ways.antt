-- The ways through the functions for C, one for each end of a call.
use Rattle.std.specs.Prelude.{Ok, Result}
use mathlib.Core.Path.{◌≡◌, refl, sym, ◌∙◌}
use mathlib.Core.Bool.{Bool, true, false}
use mathlib.Core.List.{List, []}
use mathlib.Core.Logic.{inl, inr}
use Prim.Native.Nat.{ℕ, ◌≤◌, ◌<◌}
use lib.Dec.{ltb}
use lib.ListN.{length}
use borrow.Author.Tests.{ltb-true, ltb-false}
use Rattle.code.specs.declared.Classes.{Classes}
use Rattle.code.specs.declared.Code.{Code}
use Rattle.code.specs.declared.Enlarged.{Enlarged}
use Rattle.code.specs.declared.Enlargement.{Enlargement}
use Rattle.code.specs.declared.Taken.{Taken}
use Rattle.code.specs.declared.TakenClasses.{TakenClasses}
use Rattle.code.specs.declared.Refusal.{Refusal}
use Rattle.code.specs.declared.Readings.{Readings}
use Rattle.code.specs.declared.Verdict.{Verdict}
use Rattle.code.specs.declared.ByteCount.{ByteCount}
use Rattle.code.specs.declared.SymbolCount.{SymbolCount}
use Rattle.code.specs.Definitions.ClassSheets.{different_bytes, taken_classes}
use Rattle.code.specs.Definitions.Enlarged.{plain_of}
use Rattle.code.specs.Definitions.NextWords.{naming_conditions, NamesNext}
use Rattle.code.specs.Definitions.Operations.{written, encoding_conditions, reading_conditions, verdict_conditions, Enlarges, Encodes, ReadsMessage, Judges}
use Rattle.code.specs.Definitions.Sheets.{limits, taken}
use Rattle.code.specs.Definitions.Splitting.{splitting_conditions, SplitsText}
use Rattle.c_results.specs.Given.{Answered, classes_in}
use Rattle.c_image.specs.Image.{image_length, image_of, enlarged_in}
use Rattle.turkish_letters.specs.Letters.{turkish_classes}
use Rattle.turkish.specs.Types.{types, code_of_types}
use Rattle.c_answers.specs.Answers.{short_number, answer_length, answer_number, answer_entries, symbols_entries, bytes_entries, readings_entries, word_entries, verdict_entries}
use Rattle.c_short_answers.specs.Untold.{Untold}
use Rattle.furlazon.specs.Calls.{TakesIn, ClassesCall, TurkishCall, TurkishClassesCall, EnlargeCall, EncodeCall, ReadCall, NextCall, VerdictCall, SplitCall}

-- Answering a sheet or a ban list

pub sheet_answered : (s : List ℕ) {b b' : List ℕ} {n : ℕ} {t : Taken} {e : Enlarged} → t ≡ taken limits s → e ≡ plain_of limits t.code
    → Answered t.answer image_length (image_of e) b b' n → TakesIn s b b' n
sheet_answered s g p h = rw (p, g) at h

pub turkish_answered : {b b' : List ℕ} {n : ℕ} {c : Code} {e : Enlarged} → c ≡ code_of_types limits types → e ≡ plain_of limits c → Answered (Ok tt) image_length (image_of e) b b' n
    → TurkishCall b b' n
turkish_answered g p h = rw (p, g) at h

pub classes_answered : (s : List ℕ) {b b' : List ℕ} {n : ℕ} {t : TakenClasses} → t ≡ taken_classes limits s → Answered t.answer different_bytes t.classes.entries b b' n
    → ClassesCall s b b' n
classes_answered s g h = rw g at h

pub letters_answered : {b b' : List ℕ} {n : ℕ} {c : Classes} → c.entries ≡ turkish_classes → Answered (Ok tt) different_bytes c.entries b b' n → TurkishClassesCall b b' n
letters_answered g h = rw g at h

pub list_unread : {t s b : List ℕ} {n : ℕ} → length t < image_length → n ≡ short_number → EnlargeCall t s b b n
list_unread h e = EnlargeCall.unread h e refl

pub list_answered : {t s b b' : List ℕ} {n : ℕ} {e : Enlarged} {x : Enlargement} → image_length ≤ length t → e ≡ enlarged_in t → Enlarges limits e s x
    → Answered x.answer image_length (image_of x.enlarged) b b' n → EnlargeCall t s b b' n
list_answered h u g k = EnlargeCall.answered h (rw u at g) k

-- What is known of the room for an answer after the test for it.
pub answer_short : (n : ℕ) {b : Bool} → b ≡ ltb n answer_length → b ≡ true → n < answer_length
answer_short n e t = ltb-true n answer_length (sym e ∙ t)

pub answer_room : (n : ℕ) {b : Bool} → b ≡ ltb n answer_length → b ≡ false → answer_length ≤ n
answer_room n e t = ltb-false n answer_length (sym e ∙ t)

-- The other operations: an image that is too short to be read, an answer that is too short to be told, and the operation's answer

module _ {t s m a : List ℕ} where
  pub encode_unread : {n : ℕ} → length t < image_length → n ≡ short_number → EncodeCall t s m a m a n
  encode_unread h e = EncodeCall.unread h e refl refl

  pub encode_untold : {n : ℕ} {v : Enlarged} → image_length ≤ length t → length a < answer_length → v ≡ enlarged_in t → Untold (encoding_conditions limits v s []) n
      → EncodeCall t s m a m a n
  encode_untold h l u e = EncodeCall.untold h l (rw u at e) refl refl

  pub encode_answered : {m' a' : List ℕ} {n : ℕ} {e : Result SymbolCount Refusal} {v : Enlarged} → image_length ≤ length t → answer_length ≤ length a → v ≡ enlarged_in t → Encodes limits v s m m' e
      → (n ≡ answer_number e) × (a' ≡ written (answer_entries symbols_entries e) a) → EncodeCall t s m a m' a' n
  encode_answered h l u r w = EncodeCall.answered h l (rw u at r) w.0 w.1

  -- What is told is the answer of the operation.
  pub encode_told : {m' a' : List ℕ} {n : ℕ} {e d : Result SymbolCount Refusal} {v : Enlarged} → d ≡ e → image_length ≤ length t → answer_length ≤ length a → v ≡ enlarged_in t
      → Encodes limits v s m m' e → (n ≡ answer_number d) × (a' ≡ written (answer_entries symbols_entries d) a) → EncodeCall t s m a m' a' n
  encode_told q h l u r w = encode_answered h l u r (rw q at w)

module _ {t m f g w a : List ℕ} where
  pub read_unread : {n : ℕ} → length t < image_length → n ≡ short_number → ReadCall t m f g w a f g w a n
  read_unread h e = ReadCall.unread h e refl refl refl refl

  pub read_untold : {n : ℕ} {v : Enlarged} → image_length ≤ length t → length a < answer_length → v ≡ enlarged_in t → Untold (reading_conditions limits v m [] [] []) n
      → ReadCall t m f g w a f g w a n
  read_untold h l u e = ReadCall.untold h l (rw u at e) refl refl refl refl

  pub read_answered : {f' g' w' a' : List ℕ} {n : ℕ} {e : Result Readings Refusal} {v : Enlarged} → image_length ≤ length t → answer_length ≤ length a → v ≡ enlarged_in t
      → ReadsMessage limits v m f g w f' g' w' e → (n ≡ answer_number e) × (a' ≡ written (answer_entries readings_entries e) a) → ReadCall t m f g w a f' g' w' a' n
  read_answered h l u r e = ReadCall.answered h l (rw u at r) e.0 e.1

  pub verdict_unread : {n : ℕ} → length t < image_length → n ≡ short_number → VerdictCall t m f g w a m f g w a n
  verdict_unread h e = VerdictCall.unread h e refl refl refl refl refl

  pub verdict_untold : {n : ℕ} {v : Enlarged} → image_length ≤ length t → length a < answer_length → v ≡ enlarged_in t → Untold (verdict_conditions limits v [] [] [] []) n
      → VerdictCall t m f g w a m f g w a n
  verdict_untold h l u e = VerdictCall.untold h l (rw u at e) refl refl refl refl refl

  pub verdict_answered : {m' f' g' w' a' : List ℕ} {n : ℕ} {e : Result Verdict Refusal} {v : Enlarged} → image_length ≤ length t → answer_length ≤ length a → v ≡ enlarged_in t
      → Judges limits v m f g w m' f' g' w' e → (n ≡ answer_number e) × (a' ≡ written (answer_entries verdict_entries e) a) → VerdictCall t m f g w a m' f' g' w' a' n
  verdict_answered h l u r e = VerdictCall.answered h l (rw u at r) e.0 e.1

module _ {t m w a : List ℕ} where
  pub next_unread : {n : ℕ} → length t < image_length → n ≡ short_number → NextCall t m w a w a n
  next_unread h e = NextCall.unread h e refl refl

  pub next_untold : {n : ℕ} {v : Enlarged} → image_length ≤ length t → length a < answer_length → v ≡ enlarged_in t → Untold (naming_conditions limits v m []) n
      → NextCall t m w a w a n
  next_untold h l u e = NextCall.untold h l (rw u at e) refl refl

  pub next_answered : {w' a' : List ℕ} {n : ℕ} {e : Result ℕ Refusal} {v : Enlarged} → image_length ≤ length t → answer_length ≤ length a → v ≡ enlarged_in t → NamesNext limits v m w w' e
      → (n ≡ answer_number e) × (a' ≡ written (answer_entries word_entries e) a) → NextCall t m w a w' a' n
  next_answered h l u r e = NextCall.answered h l (rw u at r) e.0 e.1

module _ {t k s b m f g w a : List ℕ} where
  pub split_unread : {n : ℕ} → length t < image_length → n ≡ short_number → SplitCall t k s b m f g w a b m f g w a n
  split_unread h e = SplitCall.unread (inl h) e refl refl refl refl refl refl

  pub split_unclassed : {n : ℕ} → length k < different_bytes → n ≡ short_number → SplitCall t k s b m f g w a b m f g w a n
  split_unclassed h e = SplitCall.unread (inr h) e refl refl refl refl refl refl

  module _ {v : Enlarged} {c : Classes} (long : image_length ≤ length t) (whole : different_bytes ≤ length k) (table : v ≡ enlarged_in t) (classes : c ≡ classes_in k) where
    pub split_untold : {n : ℕ} → length a < answer_length → Untold (splitting_conditions limits v c s [] [] [] [] []) n → SplitCall t k s b m f g w a b m f g w a n
    split_untold l e = SplitCall.untold long whole l (rw (table, classes) at e) refl refl refl refl refl refl

    pub split_answered : {b' m' f' g' w' a' : List ℕ} {n : ℕ} {e : Result ByteCount Refusal} → answer_length ≤ length a → SplitsText limits v c s b m f g w b' m' f' g' w' e
        → (n ≡ answer_number e) × (a' ≡ written (answer_entries bytes_entries e) a) → SplitCall t k s b m f g w a b' m' f' g' w' a' n
    split_answered l r e = SplitCall.answered long whole l (rw (table, classes) at r) e.0 e.1

    -- What is told is the answer of the operation.
    pub split_told : {b' m' f' g' w' a' : List ℕ} {n : ℕ} {e d : Result ByteCount Refusal} → d ≡ e → answer_length ≤ length a
        → SplitsText limits v c s b m f g w b' m' f' g' w' e → (n ≡ answer_number d) × (a' ≡ written (answer_entries bytes_entries d) a)
        → SplitCall t k s b m f g w a b' m' f' g' w' a' n
    split_told q l r w = split_answered l r (rw q at w)
