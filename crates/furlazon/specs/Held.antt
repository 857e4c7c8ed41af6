-- From call to call: the table that taking in a sheet, giving the Turkish types, or enlarging by a ban list, leaves in a buffer is the one that the other functions
-- find there; and so are the classes that a class sheet, or giving the Turkish letters, leaves.
use Rattle.std.specs.Prelude.{◌≡◌, refl, ℕ, List, ◌↔◌, length, drop, Ok, Result}
use Rattle.std.proofs.Common.{◌∙◌, arith}
use Rattle.code.specs.declared.Enlarged.{Enlarged}
use Rattle.code.specs.declared.Refusal.{Refusal}
use Rattle.well_classed.specs.Given.{given_well}
use Rattle.code.specs.Definitions.ClassSheets.{taken_classes}
use Rattle.code.specs.Definitions.Enlarged.{plain_of}
use Rattle.code.specs.Definitions.Lists.{tabulate}
use Rattle.code.specs.Definitions.Operations.{Enlarges, FromLists}
use Rattle.code.specs.Definitions.Sheets.{limits, taken}
use Rattle.c_results.specs.Given.{Answered, classes_in}
use Rattle.c_results.proofs.Laws.Held.{given, classes_there}
use Rattle.c_image.specs.Image.{image_length, image_of, Packable, enlarged_in}
use Rattle.c_image.specs.RoundTrip.{image_holds}
use Rattle.turkish_letters.specs.Letters.{turkish_classes}
use Rattle.turkish_letters.specs.Given.{turkish_class_sheet, turkish_given}
use Rattle.turkish.specs.Types.{types, code_of_types}
use Rattle.turkish.specs.Given.{twelve_sheet, twelve_given}
use Rattle.furlazon.specs.Calls.{TakesIn, ClassesCall, TurkishCall, TurkishClassesCall, EnlargeCall}
use Rattle.furlazon.specs.Packs.{sheet_packs, turkish_packs, list_accepted, list_packs}

held : {a : Result Unit Refusal} {e : Enlarged} {b b' : List ℕ} → Answered a image_length (image_of e) b b' 0 → (a ≡ Ok tt → Packable e) → (a ≡ Ok tt) × (enlarged_in b' ≡ e)
held {a} {e} {b} call fits = let d = given call in (d.0, rw d.1 (image_holds (fits d.0) (drop (length (image_of e)) b)))

pub sheet_held : (s : List ℕ) {b b' : List ℕ} → TakesIn s b b' 0 → ((taken limits s).answer ≡ Ok tt) × (enlarged_in b' ≡ plain_of limits (taken limits s).code)
sheet_held s call = held call (sheet_packs s refl refl)

pub turkish_held : {b b' : List ℕ} → TurkishCall b b' 0 → enlarged_in b' ≡ plain_of limits (code_of_types limits types)
turkish_held call = (held call (λ a. turkish_packs refl refl)).1

-- The call does what taking in sheets/turkish-twelve.csv does.
pub turkish_as_sheet : {b b' : List ℕ} {r : ℕ} → TurkishCall b b' r ↔ TakesIn twelve_sheet b b' r
turkish_as_sheet = (λ h. rw twelve_given h, λ h. rw twelve_given at h)

pub list_held : {t s b b' : List ℕ} → EnlargeCall t s b b' 0 → Enlarges limits (enlarged_in t) s (record { answer = Ok tt; enlarged = enlarged_in b' })
list_held (EnlargeCall.unread h e k) = absurd (omega arith)
list_held (EnlargeCall.answered h g call) = let d = held call (list_packs g) in rw d.1 (list_accepted g d.0)

-- What a sheet and then a list leave is not refused 8.
pub both_held : (s : List ℕ) {t b u d d' : List ℕ} → TakesIn s b t 0 → EnlargeCall t u d d' 0 → FromLists limits (enlarged_in d')
both_held s {u = u} first second =
    let a = sheet_held s first in
    record { table = (taken limits s).code; given = record { sheet = s; gives = rw a.0 }; list = u; gives = rw a.1 at (list_held second) }

-- Classes that a class sheet leaves are not refused 8 either.
pub classes_held : (s : List ℕ) {b b' : List ℕ} → ClassesCall s b b' 0 → taken_classes limits s ≡ record { answer = Ok tt; classes = classes_in b' }
classes_held s {b} call =
    let d = given call in
    let c = (taken_classes limits s).classes in
    let from : taken_classes limits s ≡ record { answer = Ok tt; classes = c } = rw d.0 in
    let whole = (given_well {l = limits} {c = c} (record { sheet = s; gives = from })).whole in
    from ∙ rw (d.1, classes_there c.entries b whole)

pub letters_held : {b b' : List ℕ} → TurkishClassesCall b b' 0 → classes_in b' ≡ record { entries = turkish_classes }
unfolding turkish_classes tabulate
letters_held {b} call = rw (given call).1 (classes_there turkish_classes b refl)

-- The call does what taking in sheets/turkish.classes does.
pub letters_as_sheet : {b b' : List ℕ} {r : ℕ} → TurkishClassesCall b b' r ↔ ClassesCall turkish_class_sheet b b' r
letters_as_sheet = (λ h. rw turkish_given h, λ h. rw turkish_given at h)
