-- The printed table, line by line: there is room for each line, and what stands there in the end is the whole.
use Rattle.std.specs.Prelude.{if◌then◌else◌}
use mathlib.Core.Path.{◌≡◌, refl, ◌∙◌}
use mathlib.Core.Bool.{Bool, true, false}
use mathlib.Core.List.{List, [], ◌++◌}
use Prim.Native.Nat.{ℕ, ◌+◌, ◌≤◌, ◌<◌}
use native.Mathlib.Omega.{arith}
use lib.Dec.{eqb}
use lib.ListN.{length, get_or, length-append}
use Rattle.code.specs.Definitions.Lists.{tabulate, join}
use Rattle.code.specs.Laws.Lists.{length-tabulate, get_d_tabulate}
use Rattle.printing.specs.Printed.{places}
use Rattle.writing.specs.Puts.{Puts, Starts, starts}
use Rattle.writing.specs.Fields.{following, fields_to, field_fits, field_put, all_put}
use Rattle.turkish.specs.Types.{types, matrix}
use Rattle.turkish_matrix.specs.Printed.{line_of, line_at, lines, opening, closing, printed}
use Rattle.turkish_matrix.proofs.Laws.Printing.{second_fits, third_fits, three_put}

abbrev pub all_lines : List (List ℕ)
all_lines = tabulate line_at (length types)

-- Nothing parts the lines.
unparted : (i : ℕ) (f : List ℕ) → following [] i f ≡ f
unparted i f = either (eqb i 0)
  where
    either : (b : Bool) → (if b then f else [] ++ f) ≡ f
    either true = refl
    either false = refl

module _ (x : ℕ) (h : x < length types) {row : List ℕ} (is : row ≡ get_or (matrix types) x []) where
  line_at_lem : following [] x (get_or all_lines x []) ≡ line_of x row
  line_at_lem = unparted x (get_or all_lines x []) ∙ get_d_tabulate line_at (length types) x [] h ∙ rw is

  module _ {o p : List ℕ} {at next : ℕ} (before : Puts at (fields_to [] all_lines x) o p next) where
    pub line_fits : at + length lines ≤ length o → next + length (line_of x row) ≤ length p
    unfolding lines
    line_fits room = rw line_at_lem at (field_fits [] all_lines x before (omega (arith, length-tabulate line_at (length types))) room)

    pub line_more : {q : List ℕ} {r : ℕ} → Puts next (line_of x row) p q r → Puts at (fields_to [] all_lines (x + 1)) o q r
    line_more put = field_put [] all_lines x before (omega (arith, length-tabulate line_at (length types))) (rw line_at_lem put)

pub lines_all : (x : ℕ) → length types ≤ x → {o p : List ℕ} {at next : ℕ} → Puts at (fields_to [] all_lines x) o p next → Puts at lines o p next
unfolding lines
lines_all x h before = all_put [] all_lines x before (omega (arith, length-tabulate line_at (length types)))

-- The whole table: what opens it, its lines, what closes it
module _ (o : List ℕ) (room : length printed ≤ length o) where
  whole_fits : 0 + length (opening ++ lines ++ closing) ≤ length o
  unfolding printed
  whole_fits = let fits : length (opening ++ lines ++ closing) ≤ length o = room in omega arith

  pub opening_fits : length opening ≤ length o
  opening_fits = omega (arith, whole_fits, length-append (opening ++ lines) closing, length-append opening lines)

  module _ {p : List ℕ} {k : ℕ} (first : Puts 0 opening o p k) where
    pub lines_fit : k + length lines ≤ length p
    lines_fit = second_fits opening lines closing whole_fits first

    module _ {q : List ℕ} {l : ℕ} (second : Puts k lines p q l) where
      pub closing_fits : l + length closing ≤ length q
      closing_fits = third_fits opening lines closing whole_fits first second

      pub table_put : {e : List ℕ} {r : ℕ} → Puts l closing q e r → Starts printed o e r
      unfolding printed
      table_put third = starts (three_put opening lines closing whole_fits first second third) room

-- It has so many bytes.
pub printed_long : length printed ≡ 719
unfolding printed lines tabulate join places
printed_long = refl
