-- The printed constant table as bytes: the matrix that the rules give, row by row.
use Rattle.std.specs.Prelude.{List, [], ◌∷◌, ◌++◌, map, ℕ, ◌+◌, length, get_or}
use Rattle.code.specs.Definitions.Lists.{tabulate, join}
use Rattle.printing.specs.Printed.{decimal}
use Rattle.turkish.specs.Types.{types, matrix}

-- `]), // `, the letter of type x, from A on, and a line end
abbrev pub end_of : ℕ → List ℕ
end_of x = (93 ∷ 41 ∷ 44 ∷ 32 ∷ 47 ∷ 47 ∷ 32 ∷ []) ++ ((65 + x) ∷ 10 ∷ [])

-- `    TypeRow([`, the entries parted by a comma and a space, and what ends the line
abbrev pub line_of : ℕ → List ℕ → List ℕ
line_of x row = (32 ∷ 32 ∷ 32 ∷ 32 ∷ 84 ∷ 121 ∷ 112 ∷ 101 ∷ 82 ∷ 111 ∷ 119 ∷ 40 ∷ 91 ∷ []) ++ join (44 ∷ 32 ∷ []) (map decimal row) ++ end_of x

-- the line of each row
abbrev pub line_at : ℕ → List ℕ
line_at x = line_of x (get_or (matrix types) x [])

-- all lines
unfoldable pub lines : List ℕ
lines = join [] (tabulate line_at (length types))

-- `pub const ROWS: [TypeRow; Types::COUNT] = [` and a line end
abbrev pub opening : List ℕ
opening = 112 ∷ 117 ∷ 98 ∷ 32 ∷ 99 ∷ 111 ∷ 110 ∷ 115 ∷ 116 ∷ 32 ∷ 82 ∷ 79 ∷ 87 ∷ 83 ∷ 58 ∷ 32 ∷ 91 ∷ 84 ∷ 121 ∷ 112 ∷ 101 ∷ 82 ∷ 111 ∷ 119 ∷ 59 ∷ 32 ∷ 84 ∷ 121 ∷ 112 ∷ 101 ∷ 115 ∷ 58 ∷ 58 ∷ 67 ∷ 79 ∷ 85 ∷ 78 ∷ 84 ∷ 93 ∷ 32 ∷ 61 ∷ 32 ∷ 91 ∷ 10 ∷ []

-- `];` and a line end
abbrev pub closing : List ℕ
closing = 93 ∷ 59 ∷ 10 ∷ []

unfoldable pub printed : List ℕ
printed = opening ++ lines ++ closing
