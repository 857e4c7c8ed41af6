-- The classes that an accepted class sheet gives are well-classed. By refusal 18 the symbols of its records are symbols, and none of its records takes in a sign;
-- by refusal 19 its first record takes in a byte, the lowest, which then is a letter.
use Rattle.std.specs.Prelude.{◌≡◌, refl, Bool, true, false, ◌||◌, List, [], ◌∷◌, map, ℕ, ◌≤◌, ◌<◌, length, drop, get_or, if◌then◌else◌}
use Rattle.std.proofs.Common.{ap, arith, ltb-false, lt-ltb, le-leb}
use Rattle.code.specs.declared.Classes.{Classes}
use Rattle.code.specs.declared.Limits.{Limits}
use Rattle.code.specs.Definitions.Lists.{any, tabulate}
use Rattle.code.specs.Definitions.Sheets.{body, grid, bad_bytes}
use Rattle.code.specs.Definitions.ClassSheets.{Range, range_of, ranges_of, takes_in, malformed, takes_sign, refused18, upside_down, refused19, different_bytes, class_by, classes_of, FromClassSheet}
use Rattle.code.specs.Definitions.Texts.{other, is_letter, signs}
use Rattle.code.specs.Laws.Below.{Some}
use Rattle.code.specs.Laws.Clean.{record_fields_some}
use Rattle.code.specs.Laws.Lists.{or_neither, length-tabulate, get_d_tabulate}
use Rattle.text_theory.specs.Signs.{is_sign}
use Rattle.well_classed.specs.WellClassed.{WellClassed}
use Rattle.well_classed.specs.Signs.{none_of}
use Rattle.well_classed.specs.Accepts.{accepts}
use Rattle.well_classed.specs.Formed.{Formed, formed}

-- A class is a symbol, or `other`.
class_small : (g : List (List (List ℕ))) → any malformed g ≡ false → (b : ℕ) → class_by (map range_of g) b ≤ other
unfolding any class_by
class_small [] e b = omega arith
class_small (r ∷ g) e b =
    let parts = or_neither (malformed r) (any malformed g) e in
    by_range (takes_in b (range_of r)) (formed r parts.0) (class_small g parts.1 b)
  where
    by_range : (t : Bool) → Formed (range_of r) → class_by (map range_of g) b ≤ other → (if t then (range_of r).symbol else class_by (map range_of g) b) ≤ other
    by_range true f h = omega (arith, f.symbol)
    by_range false f h = h

-- That of a sign is `other`.
class_sign : (g : List Range) → any takes_sign g ≡ false → (b : ℕ) → is_sign b ≡ true → class_by g b ≡ other
unfolding any class_by takes_sign
class_sign [] e b m = refl
class_sign (r ∷ g) e b m =
    let parts = or_neither (takes_sign r) (any takes_sign g) e in
    rw (none_of (λ a. takes_in a r) b signs parts.0 m) (class_sign g parts.1 b m)

-- That of the first range's lowest byte is the range's symbol.
class_first : (r : Range) (g : List Range) → upside_down r ≡ false → class_by (r ∷ g) r.lowest ≡ r.symbol
unfolding class_by
class_first r g e = rw (le-leb r.lowest r.lowest (omega arith), le-leb r.lowest r.highest (ltb-false r.highest r.lowest e))

-- The classes of records.
module _ (g : List (List (List ℕ))) where
  abbrev classes : List ℕ
  classes = tabulate (class_by (map range_of g)) different_bytes

  class_at : (b : ℕ) → b < different_bytes → get_or classes b 0 ≡ class_by (map range_of g) b
  class_at b = get_d_tabulate (class_by (map range_of g)) different_bytes b 0

some_letter : (g : List (List (List ℕ))) → g ≡ get_or g 0 [] ∷ drop 1 g → any malformed g ≡ false → any upside_down (map range_of g) ≡ false
    → Some (is_letter (classes g)) different_bytes
unfolding any
some_letter [] some m u = absurd (omega (arith, ap length some))
some_letter (r ∷ g) some m u =
    let first = range_of r in
    let fits = formed r (or_neither (malformed r) (any malformed g) m).0 in
    let is = class_first first (map range_of g) (or_neither (upside_down first) (any upside_down (map range_of g)) u).0 in
    record { x = first.lowest; below = fits.lowest; passes = rw (class_at (r ∷ g) first.lowest fits.lowest, is) (lt-ltb first.symbol other fits.symbol) }

given : (g : List (List (List ℕ))) → g ≡ get_or g 0 [] ∷ drop 1 g → any malformed g ≡ false → any takes_sign (map range_of g) ≡ false
    → any upside_down (map range_of g) ≡ false → WellClassed (classes g)
unfolding any
given g some m t u =
    let sign : (b : ℕ) → b < different_bytes → is_sign b ≡ true → is_letter (classes g) b ≡ false = λ b h i. rw (class_at g b h, class_sign (map range_of g) t b i) in
    record {
      whole = length-tabulate (class_by (map range_of g)) different_bytes;
      small = λ b h. rw (class_at g b h) (class_small g m b);
      apart = rw (sign 183 (omega arith) refl, sign 40 (omega arith) refl, sign 41 (omega arith) refl, sign 91 (omega arith) refl, sign 93 (omega arith) refl);
      letter = some_letter g some m u;
    }

-- The classes that an accepted class sheet gives are well-classed.
pub given_well : {l : Limits} {c : Classes} → FromClassSheet l c → WellClassed c.entries
unfolding grid ranges_of classes_of refused18 refused19
given_well {l} f =
    let s = f.sheet in
    let a = accepts l s f.gives in
    let ranges = or_neither (bad_bytes false s || any malformed (grid s)) (any takes_sign (ranges_of s)) a.records in
    let records = or_neither (bad_bytes false s) (any malformed (grid s)) ranges.0 in
    rw (ap (λ (k : Classes). k.entries) a.gives) at (given (grid s) (record_fields_some (body s)) records.1 ranges.1 a.upright)
