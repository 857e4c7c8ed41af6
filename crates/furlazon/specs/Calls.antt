-- What each function for C promises, for every input: the number it returns, and what each lent buffer then holds. A table's image that is too short to be
-- read gets 13 by itself. Where the answer is too short, 13 holds beside the operation's own refusals, and no buffer changes. All else is the operation's answer.
use Rattle.std.specs.Prelude.{◌≡◌, List, [], ◌⊎◌, ℕ, ◌≤◌, ◌<◌, length, Ok, Result}
use Rattle.code.specs.declared.Enlargement.{Enlargement}
use Rattle.code.specs.declared.Refusal.{Refusal}
use Rattle.code.specs.declared.Readings.{Readings}
use Rattle.code.specs.declared.Verdict.{Verdict}
use Rattle.code.specs.declared.ByteCount.{ByteCount}
use Rattle.code.specs.declared.SymbolCount.{SymbolCount}
use Rattle.code.specs.Definitions.ClassSheets.{different_bytes, taken_classes}
use Rattle.code.specs.Definitions.Enlarged.{plain_of}
use Rattle.code.specs.Definitions.NextWords.{naming_conditions, NamesNext}
use Rattle.code.specs.Definitions.Operations.{written, encoding_conditions, reading_conditions, verdict_conditions, Enlarges, Encodes, ReadsMessage, Judges}
use Rattle.code.specs.Definitions.Sheets.{limits, taken}
use Rattle.code.specs.Definitions.Splitting.{splitting_conditions, SplitsText}
use Rattle.c_results.specs.Given.{Answered, classes_in}
use Rattle.c_image.specs.Image.{image_length, image_of, enlarged_in}
use Rattle.turkish_letters.specs.Letters.{turkish_classes}
use Rattle.turkish.specs.Types.{types, code_of_types}
use Rattle.c_short_answers.specs.Untold.{Untold}
use Rattle.c_answers.specs.Answers.{short_number, answer_length, answer_number, answer_entries, symbols_entries, bytes_entries, readings_entries, word_entries, verdict_entries}

-- Taking in the sheet s, with the buffer b for the table.
abbrev pub TakesIn : (s b b' : List ℕ) → ℕ → Type 0
TakesIn s b b' r = Answered (taken limits s).answer image_length (image_of (plain_of limits (taken limits s).code)) b b' r

-- Taking in the class sheet s, with the buffer b for the classes.
abbrev pub ClassesCall : (s b b' : List ℕ) → ℕ → Type 0
ClassesCall s b b' r = Answered (taken_classes limits s).answer different_bytes (taken_classes limits s).classes.entries b b' r

-- Giving the code of the twelve Turkish types, with the buffer b for the table.
abbrev pub TurkishCall : (b b' : List ℕ) → ℕ → Type 0
TurkishCall b b' r = Answered (Ok tt) image_length (image_of (plain_of limits (code_of_types limits types))) b b' r

-- Giving the classes of the Turkish letters, with the buffer b for them.
abbrev pub TurkishClassesCall : (b b' : List ℕ) → ℕ → Type 0
TurkishClassesCall b b' r = Answered (Ok tt) different_bytes turkish_classes b b' r

-- Enlarging the table in t by the ban list s, with the buffer b for the enlarged table.
pub data EnlargeCall (t s b b' : List ℕ) (r : ℕ) : Type 0 where
  unread : length t < image_length → r ≡ short_number → b' ≡ b → EnlargeCall t s b b' r
  answered : {x : Enlargement} → image_length ≤ length t → Enlarges limits (enlarged_in t) s x → Answered x.answer image_length (image_of x.enlarged) b b' r → EnlargeCall t s b b' r

-- Encoding the sequence s by the table in t into the buffer m, with the buffer a for the answer.
pub data EncodeCall (t s m a m' a' : List ℕ) (r : ℕ) : Type 0 where
  unread : length t < image_length → r ≡ short_number → m' ≡ m → a' ≡ a → EncodeCall t s m a m' a' r
  untold : image_length ≤ length t → length a < answer_length → Untold (encoding_conditions limits (enlarged_in t) s []) r → m' ≡ m → a' ≡ a → EncodeCall t s m a m' a' r
  answered : {e : Result SymbolCount Refusal} → image_length ≤ length t → answer_length ≤ length a → Encodes limits (enlarged_in t) s m m' e → r ≡ answer_number e
      → a' ≡ written (answer_entries symbols_entries e) a → EncodeCall t s m a m' a' r

-- Reading the message m by the table in t into the buffers f and g, with the working buffer w and the buffer a for the answer.
pub data ReadCall (t m f g w a f' g' w' a' : List ℕ) (r : ℕ) : Type 0 where
  unread : length t < image_length → r ≡ short_number → f' ≡ f → g' ≡ g → w' ≡ w → a' ≡ a → ReadCall t m f g w a f' g' w' a' r
  untold : image_length ≤ length t → length a < answer_length → Untold (reading_conditions limits (enlarged_in t) m [] [] []) r → f' ≡ f → g' ≡ g → w' ≡ w → a' ≡ a
      → ReadCall t m f g w a f' g' w' a' r
  answered : {e : Result Readings Refusal} → image_length ≤ length t → answer_length ≤ length a → ReadsMessage limits (enlarged_in t) m f g w f' g' w' e → r ≡ answer_number e
      → a' ≡ written (answer_entries readings_entries e) a → ReadCall t m f g w a f' g' w' a' r

-- Naming the next word of the message m by the table in t, with the working buffer w and the buffer a for the answer.
pub data NextCall (t m w a w' a' : List ℕ) (r : ℕ) : Type 0 where
  unread : length t < image_length → r ≡ short_number → w' ≡ w → a' ≡ a → NextCall t m w a w' a' r
  untold : image_length ≤ length t → length a < answer_length → Untold (naming_conditions limits (enlarged_in t) m []) r → w' ≡ w → a' ≡ a → NextCall t m w a w' a' r
  answered : {e : Result ℕ Refusal} → image_length ≤ length t → answer_length ≤ length a → NamesNext limits (enlarged_in t) m w w' e → r ≡ answer_number e
      → a' ≡ written (answer_entries word_entries e) a → NextCall t m w a w' a' r

-- The verdict on the table in t, with the message buffer m, the reading buffers f and g, the working buffer w and the buffer a for the answer.
pub data VerdictCall (t m f g w a m' f' g' w' a' : List ℕ) (r : ℕ) : Type 0 where
  unread : length t < image_length → r ≡ short_number → m' ≡ m → f' ≡ f → g' ≡ g → w' ≡ w → a' ≡ a → VerdictCall t m f g w a m' f' g' w' a' r
  untold : image_length ≤ length t → length a < answer_length → Untold (verdict_conditions limits (enlarged_in t) [] [] [] []) r → m' ≡ m → f' ≡ f → g' ≡ g → w' ≡ w → a' ≡ a
      → VerdictCall t m f g w a m' f' g' w' a' r
  answered : {e : Result Verdict Refusal} → image_length ≤ length t → answer_length ≤ length a → Judges limits (enlarged_in t) m f g w m' f' g' w' e → r ≡ answer_number e
      → a' ≡ written (answer_entries verdict_entries e) a → VerdictCall t m f g w a m' f' g' w' a' r

-- Splitting the text s by the table in t and the classes in k into the buffer b, with the message buffer m, the reading buffers f and g, the working buffer w and the
-- buffer a for the answer. Classes that are too short to be read get 13 by themselves, too.
pub data SplitCall (t k s b m f g w a b' m' f' g' w' a' : List ℕ) (r : ℕ) : Type 0 where
  unread : (length t < image_length) ⊎ (length k < different_bytes) → r ≡ short_number → b' ≡ b → m' ≡ m → f' ≡ f → g' ≡ g → w' ≡ w → a' ≡ a
      → SplitCall t k s b m f g w a b' m' f' g' w' a' r
  untold : image_length ≤ length t → different_bytes ≤ length k → length a < answer_length → Untold (splitting_conditions limits (enlarged_in t) (classes_in k) s [] [] [] [] []) r
      → b' ≡ b → m' ≡ m → f' ≡ f → g' ≡ g → w' ≡ w → a' ≡ a → SplitCall t k s b m f g w a b' m' f' g' w' a' r
  answered : {e : Result ByteCount Refusal} → image_length ≤ length t → different_bytes ≤ length k → answer_length ≤ length a
      → SplitsText limits (enlarged_in t) (classes_in k) s b m f g w b' m' f' g' w' e → r ≡ answer_number e → a' ≡ written (answer_entries bytes_entries e) a
      → SplitCall t k s b m f g w a b' m' f' g' w' a' r
