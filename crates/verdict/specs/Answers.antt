-- What the program answers for a sheet and a ban list, whole: the printed result of their refusal, or of the verdict on what they give.
use Rattle.std.specs.Prelude.{◌≡◌, List, ℕ, ◌+◌, ◌*◌, length, take, Err, Ok, Result}
use Rattle.code.specs.declared.Enlargement.{Enlargement}
use Rattle.code.specs.declared.Refusal.{Refusal}
use Rattle.code.specs.declared.Refusal.TheVariants.{SheetLength}
use Rattle.code.specs.declared.Verdict.{Verdict}
use Rattle.code.specs.Definitions.Answers.{VerdictMeans}
use Rattle.code.specs.Definitions.Enlarged.{plain_of, original_table}
use Rattle.code.specs.Definitions.Operations.{Enlarges, verdict_room, written}
use Rattle.code.specs.Definitions.Sheets.{limits, taken}
use Rattle.printing.specs.Printed.{printed}
use Rattle.printing.specs.Prints.{Printable, result_of}

-- the bytes that the longest result may take: a message and two readings that fill the verdict's buffers
abbrev pub output_room : ℕ
output_room = 35 + verdict_room limits + 4 * (verdict_room limits + verdict_room limits)

-- What a sheet and a ban list give: a refused sheet its refusal, whatever the list is; an accepted one what enlarging its table by the list gives.
pub data Gives (sheet list : List ℕ) (x : Enlargement) : Type 0 where
  sheet_refused : {r : Refusal} → (taken limits sheet).answer ≡ Err r → x ≡ record { answer = Err r; enlarged = plain_of limits (taken limits sheet).code } → Gives sheet list x
  sheet_accepted : (taken limits sheet).answer ≡ Ok tt → Enlarges limits (plain_of limits (taken limits sheet).code) list x → Gives sheet list x

-- A judgement is right for what is given: it is the refusal; or the verdict on the table of original words with its bans, with x the ambiguous message and s, u its
-- first two readings.
abbrev pub RightOf : Enlargement → (x s u : List ℕ) → Result Verdict Refusal → Type 0
RightOf g x s u (Err r) = g.answer ≡ Err r
RightOf g x s u (Ok v) = (g.answer ≡ Ok tt) × VerdictMeans (original_table g.enlarged) x s u v

-- A judgement is right for a sheet and a ban list.
pub record RightFor (sheet list x s u : List ℕ) (j : Result Verdict Refusal) : Type 0 where
  pub given : Enlargement
  pub gives : Gives sheet list given
  pub right : RightOf given x s u j

-- The output buffer o becomes o', and r is the length of the printed result.
pub record Answers (sheet list o o' : List ℕ) (r : ℕ) : Type 0 where
  pub judgement : Result Verdict Refusal
  pub message : List ℕ
  pub first : List ℕ
  pub second : List ℕ
  pub right : RightFor sheet list message first second judgement
  pub count : r ≡ length (printed judgement message first second)
  pub out : o' ≡ written (printed judgement message first second) o

-- The same for the first n bytes of an input buffer and the first k of a file's buffer. 01: "sheet of 0 bytes or over 4,096"; 02, request 2: "in at most 4,096 bytes
-- (more gets 1)": what fills its buffer is refused 1.
pub record AnswersInput (input : List ℕ) (n : ℕ) (file : List ℕ) (k : ℕ) (o o' : List ℕ) (r : ℕ) : Type 0 where
  pub answers : Answers (take n input) (take k file) o o' r
  pub full : n ≡ length input → answers.judgement ≡ Err SheetLength
  pub list_full : (taken limits (take n input)).answer ≡ Ok tt → k ≡ length file → answers.judgement ≡ Err SheetLength

-- A judgement that is right for a sheet and a list, with the message and the readings that it shows at the start of the buffers m, f and g.
pub record Shows (sheet list m f g : List ℕ) (j : Result Verdict Refusal) : Type 0 where
  pub message : List ℕ
  pub first : List ℕ
  pub second : List ℕ
  pub right : RightFor sheet list message first second j
  pub printable : Printable j m f g output_room
  pub same : result_of j m f g ≡ printed j message first second
