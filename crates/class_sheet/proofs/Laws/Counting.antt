-- One range more: what filling its bytes does to the classes, and to the test for a byte in two records.
use Rattle.std.specs.Prelude.{if◌then◌else◌}
use mathlib.Core.Path.{◌≡◌, refl, sym, ap, ◌∙◌}
use mathlib.Core.Bool.{Bool, true, false, ◌&&◌, ◌||◌, true≢false}
use mathlib.Core.List.{List, ◌∷◌}
use Prim.Native.Nat.{ℕ, ◌+◌, ◌<◌}
use native.Mathlib.Omega.{arith}
use lib.Dec.{ltb}
use borrow.Author.Tests.{lt-ltb}
use Rattle.code.specs.Definitions.ClassSheets.{Range, takes_in, different_bytes, all_bytes, takers, class_by}
use Rattle.code.specs.Definitions.Lists.{any}
use Rattle.code.specs.Definitions.Texts.{other, class_of, is_letter}
use Rattle.code.specs.Laws.Lists.{any_alike, any_either}
use Rattle.class_sheet.specs.Filling.{from_to, FilledBy}

-- A byte was a letter, becomes one, or is still none.
data Turned (symbol : ℕ) (c d : List ℕ) (b : ℕ) : Bool → Type 0 where
  was : {t : Bool} → is_letter c b ≡ true → class_of d b ≡ class_of c b → is_letter d b ≡ true → Turned symbol c d b t
  becomes : is_letter c b ≡ false → class_of d b ≡ symbol → is_letter d b ≡ true → Turned symbol c d b true
  still_none : is_letter c b ≡ false → class_of d b ≡ class_of c b → is_letter d b ≡ false → Turned symbol c d b false

turned : {p : ℕ → Bool} {symbol : ℕ} {c d : List ℕ} {t : Bool} → FilledBy p symbol c d t → symbol < other → (b : ℕ) → b < different_bytes → Turned symbol c d b (p b)
turned {p} {symbol} {c} {d} f small b h = by_test (is_letter c b) (p b) refl (f.at b h)
  where
    same : class_of d b ≡ class_of c b → is_letter d b ≡ is_letter c b
    same e = ap (λ (x : ℕ). ltb x other) e

    by_test : (x y : Bool) → is_letter c b ≡ x → class_of d b ≡ (if x then class_of c b else if y then symbol else class_of c b) → Turned symbol c d b y
    by_test true y e q = was e q (same q ∙ e)
    by_test false true e q = becomes e q (lt-ltb (class_of d b) other (omega arith))
    by_test false false e q = still_none e q (same q ∙ e)

-- how often a byte is known to be taken in, by its class
abbrev pub seen : List ℕ → ℕ → ℕ
seen c b = if is_letter c b then 1 else 0

module _ (low high symbol : ℕ) {c d : List ℕ} {m : Bool} (f : FilledBy (from_to low high) symbol c d m) (small : symbol < other) (g : List Range) where
  abbrev r : Range
  r = record { lowest = low; highest = high; symbol = symbol }

  twice_at : (b : ℕ) {t : Bool} → takes_in b r ≡ t → Turned symbol c d b t
      → ltb 1 (seen c b + takers b (r ∷ g)) ≡ (is_letter c b && takes_in b r) || ltb 1 (seen d b + takers b g)
  unfolding takers
  twice_at b {t} e (was x q y) = rw (e, x, y) (by_test t)
    where
      by_test : (u : Bool) → ltb 1 (1 + ((if u then 1 else 0) + takers b g)) ≡ u || ltb 1 (1 + takers b g)
      by_test true = lt-ltb 1 (1 + (1 + takers b g)) (omega arith)
      by_test false = let k : 1 + (0 + takers b g) ≡ 1 + takers b g = omega arith in rw k
  twice_at b e (becomes x q y) = let k : 0 + (1 + takers b g) ≡ 1 + takers b g = omega arith in rw (e, x, y, k)
  twice_at b e (still_none x q y) = let k : 0 + (0 + takers b g) ≡ 0 + takers b g = omega arith in rw (e, x, y, k)

  -- A byte is in two records from this one on: it was a letter and is in this one, or it is in two of a letter's record and the later ones.
  pub twice_next : (t : Bool) → (t || m) || any (λ b. ltb 1 (seen d b + takers b g)) all_bytes ≡ t || any (λ b. ltb 1 (seen c b + takers b (r ∷ g))) all_bytes
  unfolding all_bytes
  twice_next t =
      let split = any_alike (λ b. ltb 1 (seen c b + takers b (r ∷ g))) (λ b. (is_letter c b && takes_in b r) || ltb 1 (seen d b + takers b g)) (λ b. b) different_bytes
      (λ b h. twice_at b refl (turned f small b h)) in
      let parts = split ∙ any_either (λ b. is_letter c b && takes_in b r) (λ b. ltb 1 (seen d b + takers b g)) all_bytes in
      rw (parts, ← f.met) (exchange m t (any (λ b. ltb 1 (seen d b + takers b g)) all_bytes))
    where
      exchange : (a b c : Bool) → (b || a) || c ≡ b || (a || c)
      exchange a true c = refl
      exchange a false c = refl

  class_at : (b : ℕ) {t : Bool} → takes_in b r ≡ t → Turned symbol c d b t
      → (if is_letter d b then class_of d b else class_by g b) ≡ (if is_letter c b then class_of c b else class_by (r ∷ g) b)
  unfolding class_by
  class_at b e (was x q y) = rw (x, y, q)
  class_at b e (becomes x q y) = rw (e, x, y, q)
  class_at b e (still_none x q y) = rw (e, x, y)

  pub class_next : (b : ℕ) → b < different_bytes → (if is_letter d b then class_of d b else class_by g b) ≡ (if is_letter c b then class_of c b else class_by (r ∷ g) b)
  class_next b h = class_at b refl (turned f small b h)

  pub others_next : (b : ℕ) → b < different_bytes → (is_letter c b ≡ false → class_of c b ≡ other) → is_letter d b ≡ false → class_of d b ≡ other
  others_next b h none = by_turn (turned f small b h)
    where
      by_turn : {t : Bool} → Turned symbol c d b t → is_letter d b ≡ false → class_of d b ≡ other
      by_turn (was x q y) n = absurd (true≢false (sym y ∙ n))
      by_turn (becomes x q y) n = absurd (true≢false (sym y ∙ n))
      by_turn (still_none x q y) n = q ∙ none x
