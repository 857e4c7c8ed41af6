-- Filling a table of classes byte by byte: a byte that has no class yet gets the symbol, and it is told whether one had.
use Rattle.std.specs.Prelude.{◌≡◌, refl, Bool, ◌&&◌, ◌||◌, List, ℕ, ◌+◌, ◌-◌, ◌≤◌, ◌<◌, ltb, leb, length, set, if◌then◌else◌}
use Rattle.std.proofs.Math.Path.{sym, ap}
use Rattle.std.proofs.Common.{◌∙◌, arith, get_or-set_same}
use Rattle.std.proofs.Math.Bool.{true, false, and-false, or-true, or-false}
use Rattle.std.proofs.Math.Decide.{dec_lt, dec_le, ℕ_discrete}
use Rattle.std.proofs.Math.ListN.{length-set}
use Rattle.std.proofs.Math.Seq.{get_or-set_other}
use borrow.Author.Tests.{lt-ltb, le-ltb, le-leb, lt-leb}
use Rattle.code.specs.Definitions.ClassSheets.{different_bytes, all_bytes}
use Rattle.code.specs.Definitions.Lists.{any}
use Rattle.code.specs.Definitions.Texts.{other, class_of, is_letter}
use Rattle.code.specs.Laws.Lists.{any-tabulate, any_found, any_alike}

-- the bytes from `low` to `high`
abbrev pub from_to : ℕ → ℕ → ℕ → Bool
from_to low high b = leb low b && leb b high

-- those from `low` up to `end`, without it
abbrev pub between : ℕ → ℕ → ℕ → Bool
between low end b = leb low b && ltb b end

-- In the classes c the byte b is a letter, and they stay; or it is none, and gets the symbol.
pub data Gives (b symbol : ℕ) (c d : List ℕ) : Bool → Type 0 where
  had : class_of c b < other → d ≡ c → Gives b symbol c d true
  got : other ≤ class_of c b → d ≡ set c b symbol → Gives b symbol c d false

-- The classes c became d: those bytes that are `taken` and were no letters got the symbol; t says whether one was.
pub record FilledBy (taken : ℕ → Bool) (symbol : ℕ) (c d : List ℕ) (t : Bool) : Type 0 where
  pub long : length d ≡ different_bytes
  pub at : (b : ℕ) → b < different_bytes → class_of d b ≡ (if is_letter c b then class_of c b else if taken b then symbol else class_of c b)
  pub met : t ≡ any (λ b. is_letter c b && taken b) all_bytes

module _ {p : ℕ → Bool} {symbol : ℕ} {c d : List ℕ} {t : Bool} where
  -- Only what is taken counts.
  filled_alike : (q : ℕ → Bool) → ((b : ℕ) → b < different_bytes → p b ≡ q b) → FilledBy p symbol c d t → FilledBy q symbol c d t
  unfolding all_bytes
  filled_alike q same f = record {
    long = f.long;
    at = λ b h. rw (← same b h) (f.at b h);
    met = f.met ∙ any_alike (λ b. is_letter c b && p b) (λ b. is_letter c b && q b) (λ b. b) different_bytes (λ b h. ap (λ (x : Bool). is_letter c b && x) (same b h));
  }

  -- One byte more is taken, that was not.
  module _ (e : ℕ) (within : e < different_bytes) (new : p e ≡ false) (q : ℕ → Bool) (there : q e ≡ true) (others : (b : ℕ) → (b ≡ e → ⊥) → p b ≡ q b)
      (f : FilledBy p symbol c d t) where
    still : class_of d e ≡ class_of c e
    still = f.at e within ∙ rw new (both (is_letter c e))
      where
        both : (x : Bool) → (if x then class_of c e else class_of c e) ≡ class_of c e
        both true = refl
        both false = refl

    -- It is a letter already.
    pub filled_letter : class_of d e < other → FilledBy q symbol c d true
    unfolding all_bytes
    filled_letter l =
        let letter : is_letter c e ≡ true = lt-ltb (class_of c e) other (rw still at l) in
        record {
          long = f.long;
          at = λ b h. f.at b h ∙ same b (ℕ_discrete b e) letter;
          met = sym (any_found (λ b. is_letter c b && q b) (λ b. b) different_bytes e within (rw (letter, there)));
        }
      where
        same : (b : ℕ) → Dec (b ≡ e) → is_letter c e ≡ true
            → (if is_letter c b then class_of c b else if p b then symbol else class_of c b) ≡ (if is_letter c b then class_of c b else if q b then symbol else class_of c b)
        same b (yes h) letter = let is : is_letter c b ≡ true = rw h letter in rw is
        same b (no h) letter = rw (others b h)

    -- It becomes one.
    pub filled_other : other ≤ class_of d e → FilledBy q symbol c (set d e symbol) t
    unfolding all_bytes
    filled_other l =
        let none : is_letter c e ≡ false = le-ltb (class_of c e) other (rw still at l) in
        record {
          long = length-set d e symbol ∙ f.long;
          at = λ b h. here b h (ℕ_discrete b e) none;
          met = f.met
              ∙ any_alike (λ b. is_letter c b && p b) (λ b. is_letter c b && q b) (λ b. b) different_bytes (λ b h. alike b (ℕ_discrete b e) none);
        }
      where
        here : (b : ℕ) → b < different_bytes → Dec (b ≡ e) → is_letter c e ≡ false
            → class_of (set d e symbol) b ≡ (if is_letter c b then class_of c b else if q b then symbol else class_of c b)
        here b h (yes k) none =
            let is : is_letter c b ≡ false = rw k none in
            let taken : q b ≡ true = rw k there in
            rw (is, taken, k) (get_or-set_same d e symbol 0 (omega (arith, f.long)))
        here b h (no k) none = get_or-set_other d e b symbol 0 k ∙ (rw (others b k) at (f.at b h))

        alike : (b : ℕ) → Dec (b ≡ e) → is_letter c e ≡ false → is_letter c b && p b ≡ is_letter c b && q b
        alike b (yes k) none = let is : is_letter c b ≡ false = rw k none in rw is
        alike b (no k) none = rw (others b k)

-- None is taken yet.
between_none : (low b : ℕ) → between low low b ≡ false
between_none low b = by_place (dec_le low b)
  where
    by_place : Dec (low ≤ b) → between low low b ≡ false
    by_place (yes h) = rw (le-ltb b low h, and-false)
    by_place (no h) = rw (lt-leb low b (omega arith))

pub filling_starts : (low symbol : ℕ) (c : List ℕ) → length c ≡ different_bytes → FilledBy (between low low) symbol c c false
unfolding all_bytes
filling_starts low symbol c long = record {
  long = long;
  at = λ b h. rw (between_none low b) (both b (is_letter c b));
  met = sym (any-tabulate (λ b. is_letter c b && between low low b) (λ b. b) different_bytes (λ b h. rw (between_none low b, and-false)));
}
  where
    both : (b : ℕ) (x : Bool) → class_of c b ≡ (if x then class_of c b else class_of c b)
    both b true = refl
    both b false = refl

-- The next byte is taken.
between_next : (low e : ℕ) → low ≤ e → between low (e + 1) e ≡ true
between_next low e h = rw (le-leb low e h, lt-ltb e (e + 1) (omega arith))

between_new : (low e : ℕ) → between low e e ≡ false
between_new low e = rw (le-ltb e e (omega arith), and-false)

between_others : (low e b : ℕ) → (b ≡ e → ⊥) → between low e b ≡ between low (e + 1) b
between_others low e b n = by_place (dec_lt b e)
  where
    by_place : Dec (b < e) → between low e b ≡ between low (e + 1) b
    by_place (yes h) = rw (lt-ltb b e h, lt-ltb b (e + 1) (omega arith))
    by_place (no h) =
        let past : e ≤ b = omega arith in
        let over : e + 1 ≤ b = by_two (dec_le (e + 1) b) in
        rw (le-ltb b e past, le-ltb b (e + 1) over)
      where
        by_two : Dec (e + 1 ≤ b) → e + 1 ≤ b
        by_two (yes k) = k
        by_two (no k) = absurd (n (omega arith))

module _ (low e : ℕ) {symbol : ℕ} {c d : List ℕ} {t : Bool} (f : FilledBy (between low e) symbol c d t) (from : low ≤ e) (within : e < different_bytes) where
  pub filling_on : {d' : List ℕ} {r : Bool} → Gives e symbol d d' r → FilledBy (between low (e + 1)) symbol c d' (t || r)
  filling_on (had l p) =
      rw (p, or-true t) (filled_letter e within (between_new low e) (between low (e + 1)) (between_next low e from) (between_others low e) f l)
  filling_on (got l p) =
      rw (p, or-false t) (filled_other e within (between_new low e) (between low (e + 1)) (between_next low e from) (between_others low e) f l)

-- Past the highest byte all of the range are.
pub filling_ends : (low high e : ℕ) {symbol : ℕ} {c d : List ℕ} {t : Bool} → FilledBy (between low e) symbol c d t → e - low ≤ high + 1 - low → high < e
    → FilledBy (from_to low high) symbol c d t
filling_ends low high e f few past = filled_alike (from_to low high) (λ b h. by_place b (dec_le low b) (dec_lt b e) (dec_le b high)) f
  where
    by_place : (b : ℕ) → Dec (low ≤ b) → Dec (b < e) → Dec (b ≤ high) → between low e b ≡ from_to low high b
    by_place b (no h) k l = rw (lt-leb low b (omega arith))
    by_place b (yes h) (yes k) (yes l) = rw (lt-ltb b e k, le-leb b high l)
    by_place b (yes h) (yes k) (no l) = absurd (omega arith)
    by_place b (yes h) (no k) (yes l) = absurd (omega arith)
    by_place b (yes h) (no k) (no l) = rw (le-ltb b e (omega arith), lt-leb b high (omega arith))
