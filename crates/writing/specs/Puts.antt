-- Bytes put into a buffer from a place on: what two puts after one another store, and what a put at the start leaves.
use Rattle.std.specs.Prelude.{◌≡◌, refl, List, [], ◌∷◌, ◌++◌, ℕ, ◌+◌, ◌≤◌, length, set}
use Rattle.std.proofs.Common.{ap, ◌∙◌, arith, length-append}
use Rattle.std.proofs.lemmas.List.Edits.{sets}
use Rattle.std.proofs.Math.Seq.{length-sets}
use Rattle.code.specs.Definitions.Operations.{written}
use Rattle.copying.specs.Runs.{sets_behind, sets_front}

-- The text stands in the buffer from `at` on, and r is the place after it.
pub record Puts (at : ℕ) (text o o' : List ℕ) (r : ℕ) : Type 0 where
  pub end : r ≡ at + length text
  pub out : o' ≡ sets o at text

-- A text after a text is the two joined.
pub puts_then : {at m r : ℕ} {x y o p q : List ℕ} → Puts at x o p m → Puts m y p q r → Puts at (x ++ y) o q r
puts_then {at} {m} {r} {x} {y} {o} {p} {q} f g = record {
  end = omega (arith, f.end, g.end, length-append x y);
  out = g.out ∙ rw f.out (sets_behind x y o at m f.end);
}

-- one byte stored
pub puts_one : (at a : ℕ) (o : List ℕ) → Puts at (a ∷ []) o (set o at a) (at + 1)
puts_one at a o = record { end = omega arith; out = refl }

pub puts_none : (at : ℕ) (o : List ℕ) → Puts at [] o o at
puts_none at o = record { end = omega arith; out = refl }

-- The length of the buffer stays.
pub puts_length : {at r : ℕ} {x o p : List ℕ} → Puts at x o p r → length p ≡ length o
puts_length {at} {r} {x} {o} {p} f = ap length f.out ∙ length-sets o at x

-- The text stands at the start of the buffer, and r is its length.
pub record Starts (text o o' : List ℕ) (r : ℕ) : Type 0 where
  pub count : r ≡ length text
  pub out : o' ≡ written text o

pub starts : {r : ℕ} {text o p : List ℕ} → Puts 0 text o p r → length text ≤ length o → Starts text o p r
starts {r} {text} {o} {p} f h = record { count = omega (arith, f.end); out = f.out ∙ sets_front text o h }
