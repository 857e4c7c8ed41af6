-- Codes with bans that look two words back, as a table, and a code without its ban beside them. A lone statement, proved by computation, says that they pass the checks; so every
-- entry holds.
use Rattle.std.specs.Prelude.{◌≡◌, refl, true, ◌&&◌, ℕ}
use mathlib.Core.List.{List, [], ◌∷◌}
use Rattle.code.specs.Definitions.Lists.{every}
use Rattle.code.specs.Definitions.Bans.{Ban}
use Rattle.cases.specs.Cases.{Case, Expected, delay, ambiguous, only_reading, check}
use Rattle.cases.specs.Banned.{BannedCase, check_banned}
use Rattle.cases.specs.Starred.{all_one, all_begin}

-- three words 0, 1 and 011, of which each may begin and follow each
abbrev pub three : Expected → Case
three x = record { words = (0 ∷ []) ∷ (1 ∷ []) ∷ (0 ∷ 1 ∷ 1 ∷ []) ∷ []; begins = all_begin 3; rows = all_one 3; expected = x }

-- 02, request 2: "X never follows Y then Z"
abbrev pub never : ℕ → ℕ → ℕ → Ban
never x y z = record { x = x; y = y; z = z }

-- Without a ban 011 is the words 0, 1 and 1, or the word 2.
abbrev pub freely : Case
freely = three (ambiguous (0 ∷ 1 ∷ 1 ∷ []) (0 ∷ 1 ∷ 1 ∷ []) (2 ∷ []))

-- If 1 never follows 0 then 1, that code is decipherable with the delay 3, and 011 is the word 2. If in the words 0, 010 and 1 the first never follows itself then the last, no
-- longer 010 but 01010 has two readings.
abbrev pub banned : List BannedCase
banned =
    record { code = three (delay 3); bans = never 1 0 1 ∷ [] }
    ∷ record { code = three (only_reading (0 ∷ 1 ∷ 1 ∷ []) (2 ∷ [])); bans = never 1 0 1 ∷ [] }
    ∷ record {
      code = record {
        words = (0 ∷ []) ∷ (0 ∷ 1 ∷ 0 ∷ []) ∷ (1 ∷ []) ∷ [];
        begins = all_begin 3;
        rows = all_one 3;
        expected = ambiguous (0 ∷ 1 ∷ 0 ∷ 1 ∷ 0 ∷ []) (0 ∷ 2 ∷ 1 ∷ []) (1 ∷ 2 ∷ 0 ∷ []);
      };
      bans = never 0 0 2 ∷ [];
    }
    ∷ []

-- The lone statement: the code without its ban and the table pass the checks.
pub banned_checked : (check freely && every check_banned banned) ≡ true
unfolding every check check_banned
banned_checked = refl
