-- What a class sheet means: its ranges, the refusals 1 and 18 to 20 in order, the classes that it gives; and the classes that a sheet gives. The bytes are parted
-- into records and fields as those of a code sheet are.
use Rattle.std.specs.Prelude.{◌≡◌, Bool, false, not, ◌&&◌, ◌||◌, List, [], ◌∷◌, map, ℕ, ◌+◌, ◌*◌, ltb, leb, eqb, length, get_or, if◌then◌else◌, Err, Ok}
use Rattle.code.specs.declared.Classes.{Classes}
use Rattle.code.specs.declared.Limits.{Limits}
use Rattle.code.specs.declared.Refusal.{Refusal}
use Rattle.code.specs.declared.Refusal.TheVariants.{SheetLength, ClassRecord, ClassRange, ClassOverlap}
use Rattle.code.specs.declared.TakenClasses.{TakenClasses}
use Rattle.code.specs.Definitions.Lists.{any, every, tabulate}
use Rattle.code.specs.Definitions.Sheets.{is_digit, value_of, grid, bad_bytes, wrong_length}
use Rattle.code.specs.Definitions.Texts.{other, signs}

-- 02, request 5: "records of lowest byte, highest byte (two hexadecimal digits each) and symbol digit"
pub record Range : Type 0 where
  pub lowest : ℕ
  pub highest : ℕ
  pub symbol : ℕ

abbrev pub symbol_of : List ℕ → ℕ
symbol_of f = value_of (get_or f 0 48)

abbrev pub byte_of : List ℕ → ℕ
byte_of f = 16 * value_of (get_or f 0 48) + value_of (get_or f 1 48)

abbrev pub range_of : List (List ℕ) → Range
range_of r = record { lowest = byte_of (get_or r 0 []); highest = byte_of (get_or r 1 []); symbol = symbol_of (get_or r 2 []) }

unfoldable pub ranges_of : List ℕ → List Range
ranges_of s = map range_of (grid s)

-- A range takes in the bytes from its lowest to its highest; none, if its lowest is above its highest.
abbrev pub takes_in : ℕ → Range → Bool
takes_in b r = leb r.lowest b && leb b r.highest

-- a field of n hexadecimal digits
abbrev pub digits : ℕ → List ℕ → Bool
digits n f = eqb (length f) n && every is_digit f

-- A blank line has one field, and is such a record.
unfoldable pub malformed : List (List ℕ) → Bool
malformed r = not (eqb (length r) 3 && digits 2 (get_or r 0 []) && digits 2 (get_or r 1 []) && digits 1 (get_or r 2 []))

-- "one that takes in B7 or a bracket (hexadecimal 28, 29, 5B, 5D)"
unfoldable pub takes_sign : Range → Bool
takes_sign r = any (λ b. takes_in b r) signs

-- 18: "wrong bytes, a malformed record, or one that takes in B7 or a bracket". Bytes are wrong as in a code sheet.
unfoldable pub refused18 : List ℕ → Bool
refused18 s = bad_bytes false s || any malformed (grid s) || any takes_sign (ranges_of s)

-- 19: "lowest above highest"
abbrev pub upside_down : Range → Bool
upside_down r = ltb r.highest r.lowest

unfoldable pub refused19 : List Range → Bool
refused19 g = any upside_down g

-- how many bytes there are, and all of them
abbrev pub different_bytes : ℕ
different_bytes = 256

unfoldable pub all_bytes : List ℕ
all_bytes = tabulate (λ b. b) different_bytes

-- how many ranges take in a byte
unfoldable pub takers : ℕ → List Range → ℕ
takers b [] = 0
takers b (r ∷ g) = (if takes_in b r then 1 else 0) + takers b g

-- 20: "a byte in two records"
unfoldable pub refused20 : List Range → Bool
refused20 g = any (λ b. ltb 1 (takers b g)) all_bytes

-- 02, request 5: 'A byte in no record is "other".'
unfoldable pub class_by : List Range → ℕ → ℕ
class_by [] b = other
class_by (r ∷ g) b = if takes_in b r then r.symbol else class_by g b

unfoldable pub classes_of : List Range → Classes
classes_of g = record { entries = tabulate (class_by g) different_bytes }

-- the classes of a refused sheet: no letter
unfoldable pub no_letters : Classes
no_letters = classes_of []

abbrev pub no_classes : Refusal → TakenClasses
no_classes r = record { answer = Err r; classes = no_letters }

module _ (l : Limits) where
  -- "lowest number first"; 1 as for a code sheet
  unfoldable pub taken_classes : List ℕ → TakenClasses
  taken_classes s =
      if wrong_length l.classes s then no_classes SheetLength else
      if refused18 s then no_classes ClassRecord else
      if refused19 (ranges_of s) then no_classes ClassRange else
      if refused20 (ranges_of s) then no_classes ClassOverlap else
      record { answer = Ok tt; classes = classes_of (ranges_of s) }

  -- 02, request 5: "classes that no accepted class sheet gives" get 8: here one gives them.
  pub record FromClassSheet (c : Classes) : Type 0 where
    pub sheet : List ℕ
    pub gives : taken_classes sheet ≡ record { answer = Ok tt; classes = c }
