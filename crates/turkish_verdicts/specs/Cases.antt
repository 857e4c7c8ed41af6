-- 01's cases 11 and 12, of the codes that types and rules make. One statement, proved by computation, says that both pass the check of the crate `cases`.
use Rattle.std.specs.Prelude.{◌≡◌, refl, true, ◌&&◌, List, [], ◌∷◌, ℕ, take}
use Rattle.code.specs.declared.Code.{Code}
use Rattle.code.specs.Definitions.Lists.{tabulate}
use Rattle.code.specs.Definitions.Sheets.{limits}
use Rattle.code.specs.Definitions.Tables.{table_of}
use Rattle.cases.specs.Cases.{Expected, ambiguous, delay, check_table}
use Rattle.turkish.specs.Types.{types, padded, code_of_types}

-- the twelve types, and the first six
abbrev pub twelve : Code
twelve = code_of_types limits types

abbrev pub six : Code
six = code_of_types limits (take 6 types)

-- "000's twelve types and matrix: ambiguous, message 01110, readings 2,6 and 4,1"
abbrev pub message_twelve : List ℕ
message_twelve = 0 ∷ 1 ∷ 1 ∷ 1 ∷ 0 ∷ []

abbrev pub first_twelve : List ℕ
first_twelve = 2 ∷ 6 ∷ []

abbrev pub second_twelve : List ℕ
second_twelve = 4 ∷ 1 ∷ []

abbrev pub expected_twelve : Expected
expected_twelve = ambiguous message_twelve first_twelve second_twelve

-- "Words 0, 10, 01, 101, 011, 1011 with 000's six-type matrix: delay 5"
abbrev pub expected_six : Expected
expected_six = delay 5

pub both_checked : (check_table (table_of twelve) expected_twelve && check_table (table_of six) expected_six) ≡ true
unfolding check_table tabulate padded code_of_types
both_checked = refl
