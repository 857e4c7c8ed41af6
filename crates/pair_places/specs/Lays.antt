-- A flat list lays out a table: its places are numbered along the words joined, in sheet order.
use Rattle.std.specs.Prelude.{◌≡◌, List, ℕ, suc, ◌+◌, ◌<◌, eqb, length, get_or}
use Rattle.code.specs.Definitions.Lists.{tabulate, sum}
use Rattle.code.specs.Definitions.Tables.{Table, size, word}
use Rattle.pair_places.specs.Flat.{symbol_at, owner_at, end_at, first_at, may_follow, word_count, place_count, begins_at}

abbrev pub length_of : Table → ℕ → ℕ
length_of t x = length (word t x)

-- the number of word x's first place: the symbols of the words before it
unfoldable pub base : Table → ℕ → ℕ
base t x = sum (tabulate (length_of t) x)

-- The entries of word x, whose places start at number `at`.
pub record LaysWord (t : Table) (f : List ℕ) (x at : ℕ) : Type 0 where
  pub symbols : (k : ℕ) → k < length_of t x → symbol_at f (at + k) ≡ get_or (word t x) k 0
  pub owners : (k : ℕ) → k < length_of t x → owner_at f (at + k) ≡ x
  pub ends : (k : ℕ) → k < length_of t x → end_at f (at + k) ≡ eqb (suc k) (length_of t x)
  pub first : first_at f x ≡ at
  pub follow : (y : ℕ) → y < size t → may_follow f x y ≡ t.follow x y

pub record Lays (t : Table) (f : List ℕ) : Type 0 where
  pub count : word_count f ≡ size t
  pub words : (x : ℕ) → x < size t → LaysWord t f x (base t x)
  pub places : place_count f ≡ base t (size t)
  pub begins : (x : ℕ) → x < size t → begins_at f x ≡ t.begins x
