-- What the records of a class sheet without wrong bytes give.
use Rattle.std.specs.Prelude.{◌≡◌, Bool, ◌||◌, List, map, ℕ, if◌then◌else◌, Err, Ok, Result}
use Rattle.code.specs.declared.Refusal.{Refusal}
use Rattle.code.specs.declared.Refusal.TheVariants.{ClassRecord, ClassRange, ClassOverlap}
use Rattle.code.specs.declared.TakenClasses.{TakenClasses}
use Rattle.code.specs.Definitions.ClassSheets.{Range, range_of, malformed, takes_sign, refused19, refused20, classes_of, no_classes}
use Rattle.code.specs.Definitions.Lists.{any}

abbrev pub ranges_in : List (List (List ℕ)) → List Range
ranges_in g = map range_of g

-- 18, but for wrong bytes
abbrev pub bad_records : List (List (List ℕ)) → Bool
bad_records g = any malformed g || any takes_sign (ranges_in g)

unfoldable pub taken_records : List (List (List ℕ)) → TakenClasses
taken_records g =
    if bad_records g then no_classes ClassRecord else
    if refused19 (ranges_in g) then no_classes ClassRange else
    if refused20 (ranges_in g) then no_classes ClassOverlap else
    record { answer = Ok tt; classes = classes_of (ranges_in g) }

-- 18 to 20, by what was seen
abbrev pub judged : Bool → Bool → Bool → Result Unit Refusal
judged bad upside twice =
    if bad then Err ClassRecord else
    if upside then Err ClassRange else
    if twice then Err ClassOverlap else
    (Ok tt)

-- The answer, and the classes of an accepted sheet.
pub data Answers (g : List (List (List ℕ))) (c : List ℕ) : Result Unit Refusal → Type 0 where
  refused : {r : Refusal} → taken_records g ≡ no_classes r → Answers g c (Err r)
  accepted : taken_records g ≡ record { answer = Ok tt; classes = record { entries = c } } → Answers g c (Ok tt)
