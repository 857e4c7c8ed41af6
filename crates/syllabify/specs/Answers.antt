-- What the program answers for a text, whole: the refusal of the code sheet, that of the class sheet, that of the text, or the text split into syllables.
use Rattle.std.specs.Prelude.{◌≡◌, Bool, true, List, ℕ, ◌+◌, ◌*◌, ◌≤◌, ◌<◌, length, take, if◌then◌else◌, Err, Ok, Result}
use Rattle.code.specs.declared.ByteCount.{ByteCount}
use Rattle.code.specs.declared.Refusal.{Refusal}
use Rattle.code.specs.declared.Refusal.TheVariants.{SheetLength, MessageLength}
use Rattle.code.specs.declared.Taken.{Taken}
use Rattle.code.specs.declared.TakenClasses.{TakenClasses}
use Rattle.code.specs.Definitions.ClassSheets.{taken_classes}
use Rattle.code.specs.Definitions.Sheets.{limits, taken}
use Rattle.code.specs.Definitions.Tables.{table_of}
use Rattle.code.specs.Definitions.Texts.{Splits}
use Rattle.turkish_letters.specs.Letters.{turkish_classes}
use Rattle.printing.specs.Printed.{refused_record}
use Rattle.turkish.specs.Types.{types, code_of_types}
use Rattle.writing.specs.Puts.{Starts}

-- What a named sheet gives; the twelve types where none is named.
unfoldable pub code_given : Bool → List ℕ → Taken
code_given named sheet = if named then taken limits sheet else record { answer = Ok tt; code = code_of_types limits types }

-- What a named class sheet gives; the Turkish letters where none is named.
unfoldable pub classes_given : Bool → List ℕ → TakenClasses
classes_given named sheet = if named then taken_classes limits sheet else record { answer = Ok tt; classes = record { entries = turkish_classes } }

-- What is printed for a text by what the two sheets give. The refusal of the code sheet comes first, then that of the class sheet, then that of the text.
pub data Answer (t : Taken) (k : TakenClasses) (text : List ℕ) : List ℕ → Type 0 where
  sheet_refused : {r : Refusal} → t.answer ≡ Err r → Answer t k text (refused_record r)
  classes_refused : {r : Refusal} → t.answer ≡ Ok tt → k.answer ≡ Err r → Answer t k text (refused_record r)
  text_refused : t.answer ≡ Ok tt → k.answer ≡ Ok tt → limits.text < length text → Answer t k text (refused_record MessageLength)
  output : {o : List ℕ} → t.answer ≡ Ok tt → k.answer ≡ Ok tt → length text ≤ limits.text → Splits (table_of t.code) k.classes.entries text o
      → Answer t k text o

-- the bytes that the longest result may take
abbrev pub output_room : ℕ
output_room = 2 * limits.text + 1

-- This is printed, and stands at the start of the output buffer.
pub record Shown (t : Taken) (k : TakenClasses) (text o o' : List ℕ) (r : ℕ) : Type 0 where
  pub bytes : List ℕ
  pub right : Answer t k text bytes
  pub starts : Starts bytes o o' r

-- A splitting is right: its output stands in the buffer, or its refusal is to be printed.
pub data SplitsGiven (t : Taken) (k : TakenClasses) (text o o' : List ℕ) : Result ByteCount Refusal → Type 0 where
  stands : {n : ByteCount} → Shown t k text o o' n.0 → SplitsGiven t k text o o' (Ok n)
  refused : {r : Refusal} → o' ≡ o → Answer t k text (refused_record r) → SplitsGiven t k text o o' (Err r)

-- A refusal is put into the buffer; an output stays.
pub data Printed (o o' : List ℕ) (r : ℕ) : Result ByteCount Refusal → Type 0 where
  stays : {n : ByteCount} → o' ≡ o → r ≡ n.0 → Printed o o' r (Ok n)
  put : {q : Refusal} → Starts (refused_record q) o o' r → Printed o o' r (Err q)

-- The answer to a text, with each sheet or without: o is the output buffer.
abbrev pub Answers : Bool → List ℕ → Bool → (class_sheet text o o' : List ℕ) → ℕ → Type 0
Answers named sheet lettered class_sheet text o o' r = Shown (code_given named sheet) (classes_given lettered class_sheet) text o o' r

-- The same for the first k bytes of the buffer of a code sheet's file, the first j of a class sheet's and the first n of an input's. What fills its buffer is
-- refused, however long it is.
pub record AnswersInput (named : Bool) (file : List ℕ) (k : ℕ) (lettered : Bool) (class_file : List ℕ) (j : ℕ) (input : List ℕ) (n : ℕ) (o o' : List ℕ) (r : ℕ) : Type 0 where
  pub answers : Answers named (take k file) lettered (take j class_file) (take n input) o o' r
  pub sheet_full : named ≡ true → k ≡ length file → answers.bytes ≡ refused_record SheetLength
  pub classes_full : (code_given named (take k file)).answer ≡ Ok tt → lettered ≡ true → j ≡ length class_file → answers.bytes ≡ refused_record SheetLength
  pub full : (code_given named (take k file)).answer ≡ Ok tt → (classes_given lettered (take j class_file)).answer ≡ Ok tt → n ≡ length input
      → answers.bytes ≡ refused_record MessageLength
