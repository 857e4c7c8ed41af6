-- The ways through the program: a refused code sheet, a refused class sheet, a text that is too long, and a text that is split. No other refusal comes, since sheets
-- give the code and the classes and the buffers are long enough.
use Rattle.std.specs.Prelude.{Err, Ok, Result}
use mathlib.Core.Path.{◌≡◌, refl, sym, ap, subst, ◌∙◌}
use mathlib.Core.Bool.{Bool, true, false}
use mathlib.Core.List.{List}
use mathlib.Core.Logic.{inl, inr}
use Prim.Native.Nat.{ℕ, ◌+◌, ◌<◌}
use native.Mathlib.Omega.{arith}
use lib.ListN.{length, take}
use Rattle.io.specs.Counts.{IsPrefixLen}
use Rattle.code.specs.declared.Classes.{Classes}
use Rattle.code.specs.declared.Code.{Code}
use Rattle.code.specs.declared.Refusal.{Refusal}
use Rattle.code.specs.declared.Refusal.TheVariants.{SheetLength, MessageLength}
use Rattle.code.specs.declared.Taken.{Taken}
use Rattle.code.specs.declared.TakenClasses.{TakenClasses}
use Rattle.code.specs.declared.ByteCount.{ByteCount}
use Rattle.class_sheet.proofs.Laws.Taking.{way_long as classes-long}
use Rattle.code.specs.Definitions.ClassSheets.{taken_classes, FromClassSheet}
use Rattle.code.specs.Definitions.Enlarged.{plain_of}
use Rattle.code.specs.Definitions.Operations.{Lowest}
use Rattle.code.specs.Definitions.Sheets.{limits, taken, FromSheet}
use Rattle.code.specs.Definitions.Splitting.{splitting_conditions, SplitsText, refused, split}
use Rattle.turkish_letters.specs.Letters.{turkish_classes}
use Rattle.turkish_letters.proofs.Given.{turkish_from_sheet}
use Rattle.ban_meaning.specs.Empty.{plain_lists}
use Rattle.ban_meaning.specs.Given.{plain_original}
use Rattle.printing.specs.Printed.{refused_record}
use Rattle.printing.proofs.Laws.Starts.{starts_counts}
use Rattle.sheet.proofs.Laws.Either.{not_both, one_refusal}
use Rattle.sheet.proofs.Laws.Taking.{way_long}
use Rattle.turkish.specs.Types.{types, code_of_types}
use Rattle.turkish.proofs.Given.{twelve_from_sheet}
use Rattle.syllabify.specs.Answers as Answers
use Rattle.syllabify.specs.Answers.{code_given, classes_given, Answer, sheet_refused, classes_refused, text_refused, output, output_room, Shown, SplitsGiven, stands, Printed, stays, put, Answers, AnswersInput}

-- The code by whether a sheet is named
pub given_named : (named : Bool) (sheet : List ℕ) {t : Taken} → named ≡ true → t ≡ taken limits sheet → t ≡ code_given named sheet
unfolding code_given
given_named named sheet e p = p ∙ rw e

pub given_built_in : (named : Bool) (sheet : List ℕ) {c : Code} → named ≡ false → c ≡ code_of_types limits types → record { answer = Ok tt; code = c } ≡ code_given named sheet
unfolding code_given
given_built_in named sheet e p = rw (e, p)

-- An accepted code comes from a sheet, also where it is built in.
pub given_sheet : (named : Bool) (sheet : List ℕ) {t : Taken} → t ≡ code_given named sheet → t.answer ≡ Ok tt → FromSheet limits t.code
unfolding code_given
given_sheet true sheet {t} e a = record { sheet = sheet; gives = sym e ∙ ap (λ (x : Taken). x) (λ i. record { answer = a i; code = t.code }) }
given_sheet false sheet {t} e a = rw e twelve_from_sheet

-- The same for the classes
pub classes_named : (named : Bool) (sheet : List ℕ) {k : TakenClasses} → named ≡ true → k ≡ taken_classes limits sheet → k ≡ classes_given named sheet
unfolding classes_given
classes_named named sheet e p = p ∙ rw e

pub classes_built_in : (named : Bool) (sheet : List ℕ) {c : Classes} → named ≡ false → c.entries ≡ turkish_classes → record { answer = Ok tt; classes = c } ≡ classes_given named sheet
unfolding classes_given
classes_built_in named sheet e p = rw (e, p)

pub given_classes : (named : Bool) (sheet : List ℕ) {k : TakenClasses} → k ≡ classes_given named sheet → k.answer ≡ Ok tt → FromClassSheet limits k.classes
unfolding classes_given
given_classes true sheet {k} e a = record { sheet = sheet; gives = sym e ∙ ap (λ (x : TakenClasses). x) (λ i. record { answer = a i; classes = k.classes }) }
given_classes false sheet {k} e a = rw e turkish_from_sheet

-- A refused code sheet; a refused class sheet
pub sheet_first : {t : Taken} {k : TakenClasses} {text o : List ℕ} {r : Refusal} → t.answer ≡ Err r → SplitsGiven t k text o o (Err r)
sheet_first e = Answers.refused refl (sheet_refused e)

pub classes_next : {t : Taken} {k : TakenClasses} {text o : List ℕ} {r : Refusal} → t.answer ≡ Ok tt → k.answer ≡ Err r → SplitsGiven t k text o o (Err r)
classes_next a e = Answers.refused refl (classes_refused a e)

-- An accepted code sheet gives what its code does.
pub code_accepted : {t : Taken} {k : TakenClasses} {text o o' : List ℕ} {s : Result ByteCount Refusal} → t.answer ≡ Ok tt
    → SplitsGiven (record { answer = Ok tt; code = t.code }) k text o o' s → SplitsGiven t k text o o' s
code_accepted {t} {k} {text} {o} {o'} {s} a h = let same : record { answer = Ok tt; code = t.code } ≡ t = sym (rw a) in subst (λ (u : Taken). SplitsGiven u k text o o' s) same h

module _ {t : Taken} {k : TakenClasses} (code : t.answer ≡ Ok tt) (classes : k.answer ≡ Ok tt) (from : FromSheet limits t.code)
    (lettered : FromClassSheet limits k.classes) (text o m f g w : List ℕ) (room : length o ≡ output_room)
    (m-room : length m ≡ limits.text) (f-room : length f ≡ limits.text) (g_room : length g ≡ limits.text) (w-room : length w ≡ limits.text + 1) where
  -- Only the length of the text is refused.
  lowest_length : {r : Refusal} → Lowest (splitting_conditions limits (plain_of limits t.code) k.classes text o m f g w) r → (limits.text < length text) × (r ≡ MessageLength)
  lowest_length (inl (inl p, e)) = absurd (p (plain_lists from))
  lowest_length (inl (inr p, e)) = absurd (p lettered)
  lowest_length (inr (n, inl p)) = (p.0, p.1)
  lowest_length (inr (n, inr (h, inl (inl l, e)))) = absurd (h (omega arith))
  lowest_length (inr (n, inr (h, inl (inr (inl l), e)))) = absurd (h (omega arith))
  lowest_length (inr (n, inr (h, inl (inr (inr (inl l)), e)))) = absurd (h (omega arith))
  lowest_length (inr (n, inr (h, inl (inr (inr (inr (inl l))), e)))) = absurd (h (omega arith))
  lowest_length (inr (n, inr (h, inl (inr (inr (inr (inr l))), e)))) = absurd (h (omega arith))
  lowest_length (inr (n, inr (h, inr z))) = absurd z.1

  pub splits_given : {o' m' f' g' w' : List ℕ} {r : Result ByteCount Refusal} → SplitsText limits (plain_of limits t.code) k.classes text o m f g w o' m' f' g' w' r
      → SplitsGiven t k text o o' r
  splits_given (refused {r} lowest p q u v z) =
      let h = lowest_length lowest in
      let right : Answer t k text (refused_record r) = rw h.1 (text_refused code classes h.0) in
      Answers.refused p right
  splits_given (split {o = x} holds d c p q u v z) =
      stands (record {
        bytes = x;
        right = output code classes (omega (arith, holds.1.0)) (rw (plain_original limits t.code) at d);
        starts = record { count = c; out = p };
      })

-- What is found is printed.
pub given_answers : (named : Bool) (sheet : List ℕ) (lettered : Bool) (class_sheet : List ℕ) {t : Taken} {k : TakenClasses} {text o o₁ o' : List ℕ} {r : ℕ}
    → t ≡ code_given named sheet → k ≡ classes_given lettered class_sheet → {s : Result ByteCount Refusal} → SplitsGiven t k text o o₁ s → Printed o₁ o' r s
    → Answers named sheet lettered class_sheet text o o' r
given_answers named sheet lettered class_sheet e f (stands h) (stays p q) =
    let right = rw (e, f) at h.right in
    record { bytes = h.bytes; right = right; starts = rw (p, q) h.starts }
given_answers named sheet lettered class_sheet e f (Answers.refused {r = q} h a) (put p) =
    let right = rw (e, f) at a in
    record { bytes = refused_record q; right = right; starts = rw h at p }

-- It lies within the output buffer.
pub answer_counts : {t : Taken} {k : TakenClasses} {text o o' : List ℕ} {r : ℕ} → Shown t k text o o' r → IsPrefixLen r o'
answer_counts a = starts_counts a.starts

long_text : {t : Taken} {k : TakenClasses} {text b : List ℕ} → t.answer ≡ Ok tt → k.answer ≡ Ok tt → limits.text < length text → Answer t k text b
    → b ≡ refused_record MessageLength
long_text a c h (sheet_refused e) = absurd (not_both a e)
long_text a c h (classes_refused d e) = absurd (not_both c e)
long_text a c h (text_refused d e l) = refl
long_text a c h (output d e l s) = absurd (omega arith)

long_sheet : {t : Taken} {k : TakenClasses} {text b : List ℕ} {r : Refusal} → t.answer ≡ Err r → Answer t k text b → b ≡ refused_record r
long_sheet e (sheet_refused d) = ap refused_record (one_refusal d e)
long_sheet e (classes_refused a d) = absurd (not_both a e)
long_sheet e (text_refused a d l) = absurd (not_both a e)
long_sheet e (output a d l s) = absurd (not_both a e)

long_classes : {t : Taken} {k : TakenClasses} {text b : List ℕ} {r : Refusal} → t.answer ≡ Ok tt → k.answer ≡ Err r → Answer t k text b → b ≡ refused_record r
long_classes a e (sheet_refused d) = absurd (not_both a d)
long_classes a e (classes_refused d f) = ap refused_record (one_refusal f e)
long_classes a e (text_refused d f l) = absurd (not_both f e)
long_classes a e (output d f l s) = absurd (not_both f e)

sheet_answer : (named : Bool) (sheet : List ℕ) → named ≡ true → limits.bytes < length sheet → (code_given named sheet).answer ≡ Err SheetLength
unfolding code_given
sheet_answer named sheet e h = rw (e, ← way_long sheet h)

classes-answer : (named : Bool) (sheet : List ℕ) → named ≡ true → limits.classes < length sheet → (classes_given named sheet).answer ≡ Err SheetLength
unfolding classes_given
classes-answer named sheet e h = rw (e, ← classes-long sheet h)

pub input_answered : (named : Bool) (file : List ℕ) (k : ℕ) (lettered : Bool) (class_file : List ℕ) (j : ℕ) (input : List ℕ) (n : ℕ) {o o' : List ℕ} {r : ℕ} → IsPrefixLen k file
    → IsPrefixLen j class_file → IsPrefixLen n input → limits.bytes < length file → limits.classes < length class_file → limits.text < length input
    → Answers named (take k file) lettered (take j class_file) (take n input) o o' r → AnswersInput named file k lettered class_file j input n o o' r
input_answered named file k lettered class_file j input n k-counts j-counts n-counts file-long class-long long a = record {
  answers = a;
  sheet_full = λ is whole. long_sheet (sheet_answer named (take k file) is (omega arith)) a.right;
  classes_full = λ code is whole. long_classes code (classes-answer lettered (take j class_file) is (omega arith)) a.right;
  full = λ code classes whole. long_text code classes (omega arith) a.right;
}
