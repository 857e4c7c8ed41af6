-- The codes that 01 marks with a star, and codes of request 1, as two tables. A lone statement, proved by computation, says that both pass the check; so every
-- entry holds.
use Rattle.std.specs.Prelude.{◌≡◌, refl, true, ℕ, replicate}
use mathlib.Core.List.{List, [], ◌∷◌, ◌++◌}
use Rattle.code.specs.Definitions.Lists.{every}
use Rattle.cases.specs.Cases.{Case, delay, without_bound, ambiguous, only_reading, check}

-- 01: "“All 1” is a matrix without bans."
abbrev pub all_one : ℕ → List (List ℕ)
all_one n = replicate n (replicate n 1)

-- 02, request 1: sheets without start fields "let every word begin".
abbrev pub all_begin : ℕ → List ℕ
all_begin n = replicate n 1

-- the words of codes T and U of 000
abbrev pub four_words : List (List ℕ)
four_words = (0 ∷ []) ∷ (1 ∷ 0 ∷ []) ∷ (0 ∷ 1 ∷ []) ∷ (1 ∷ 0 ∷ 1 ∷ []) ∷ []

-- the rows of code U
abbrev pub rows_u : List (List ℕ)
rows_u = (1 ∷ 1 ∷ 0 ∷ 0 ∷ []) ∷ (1 ∷ 1 ∷ 1 ∷ 1 ∷ []) ∷ (1 ∷ 1 ∷ 0 ∷ 0 ∷ []) ∷ (1 ∷ 1 ∷ 1 ∷ 1 ∷ []) ∷ []

-- rows by which words 1 and 2 may come after word 0, and nothing else after any word
abbrev pub after_first : List (List ℕ)
after_first = (0 ∷ 0 ∷ 0 ∷ []) ∷ (1 ∷ 0 ∷ 0 ∷ []) ∷ (1 ∷ 0 ∷ 0 ∷ []) ∷ []

-- 01, "Codes to hold it against": 1 to 10, in this order
abbrev pub starred : List Case
starred =
    record { words = (0 ∷ []) ∷ []; begins = all_begin 1; rows = all_one 1; expected = delay 0 }
    ∷ record { words = (0 ∷ []) ∷ (1 ∷ []) ∷ []; begins = all_begin 2; rows = all_one 2; expected = delay 1 }
    ∷ record { words = (0 ∷ []) ∷ (0 ∷ 1 ∷ []) ∷ []; begins = all_begin 2; rows = all_one 2; expected = delay 2 }
    ∷ record { words = (0 ∷ []) ∷ (1 ∷ 0 ∷ []) ∷ (1 ∷ 1 ∷ []) ∷ []; begins = all_begin 3; rows = all_one 3; expected = delay 2 }
    ∷ record { words = (0 ∷ []) ∷ (0 ∷ 1 ∷ []) ∷ (1 ∷ 1 ∷ []) ∷ []; begins = all_begin 3; rows = all_one 3; expected = without_bound }
    ∷ record { words = (0 ∷ []) ∷ (0 ∷ []) ∷ []; begins = all_begin 2; rows = (0 ∷ 0 ∷ []) ∷ (0 ∷ 0 ∷ []) ∷ []; expected = ambiguous (0 ∷ []) (0 ∷ []) (1 ∷ []) }
    ∷ record { words = four_words; begins = all_begin 4; rows = all_one 4; expected = ambiguous (0 ∷ 1 ∷ 0 ∷ []) (0 ∷ 1 ∷ []) (2 ∷ 0 ∷ []) }
    ∷ record { words = four_words; begins = all_begin 4; rows = rows_u; expected = delay 4 }
    ∷ record { words = four_words; begins = all_begin 4; rows = rows_u; expected = only_reading (1 ∷ 0 ∷ 1 ∷ 0 ∷ []) (1 ∷ 1 ∷ []) }
    ∷ record { words = four_words; begins = all_begin 4; rows = rows_u; expected = only_reading (0 ∷ 1 ∷ 1 ∷ 0 ∷ 1 ∷ []) (2 ∷ 3 ∷ []) }
    ∷ []

-- Codes of request 1, in this order: code T where word 2 may not begin; two words that come after word 0 alone, different and the same; the same two after a
-- word that no sequence reaches; no word that may begin; one word at most that may come next; rivals with different first symbols; two readings that share
-- their first word
abbrev pub opened : List Case
opened =
    record { words = four_words; begins = 1 ∷ 1 ∷ 0 ∷ 1 ∷ []; rows = all_one 4; expected = ambiguous (0 ∷ 0 ∷ 1 ∷ 0 ∷ []) (0 ∷ 0 ∷ 1 ∷ []) (0 ∷ 2 ∷ 0 ∷ []) }
    ∷ record { words = (2 ∷ []) ∷ (0 ∷ []) ∷ (0 ∷ 1 ∷ []) ∷ []; begins = 1 ∷ 0 ∷ 0 ∷ []; rows = after_first; expected = delay 2 }
    ∷ record {
      words = (2 ∷ []) ∷ (0 ∷ []) ∷ (0 ∷ []) ∷ [];
      begins = 1 ∷ 0 ∷ 0 ∷ [];
      rows = after_first;
      expected = ambiguous (2 ∷ 0 ∷ []) (0 ∷ 1 ∷ []) (0 ∷ 2 ∷ []);
    }
    ∷ record {
      words = (2 ∷ []) ∷ (3 ∷ []) ∷ (0 ∷ []) ∷ (0 ∷ []) ∷ [];
      begins = 1 ∷ 0 ∷ 0 ∷ 0 ∷ [];
      rows = (0 ∷ 0 ∷ 0 ∷ 0 ∷ []) ∷ (0 ∷ 0 ∷ 0 ∷ 0 ∷ []) ∷ (0 ∷ 1 ∷ 0 ∷ 0 ∷ []) ∷ (0 ∷ 1 ∷ 0 ∷ 0 ∷ []) ∷ [];
      expected = delay 0;
    }
    ∷ record { words = (0 ∷ []) ∷ (0 ∷ 1 ∷ []) ∷ []; begins = 0 ∷ 0 ∷ []; rows = all_one 2; expected = delay 0 }
    ∷ record { words = (0 ∷ []) ∷ (1 ∷ []) ∷ []; begins = 1 ∷ 0 ∷ []; rows = (0 ∷ 1 ∷ []) ∷ (1 ∷ 0 ∷ []) ∷ []; expected = delay 0 }
    ∷ record {
      words = (0 ∷ []) ∷ (0 ∷ 1 ∷ []) ∷ (1 ∷ 1 ∷ []) ∷ [];
      begins = 1 ∷ 0 ∷ 0 ∷ [];
      rows = (0 ∷ 1 ∷ 1 ∷ []) ∷ (1 ∷ 0 ∷ 0 ∷ []) ∷ (1 ∷ 1 ∷ 1 ∷ []) ∷ [];
      expected = delay 1;
    }
    ∷ record { words = (0 ∷ []) ∷ (0 ∷ []) ∷ []; begins = 1 ∷ 0 ∷ []; rows = all_one 2; expected = ambiguous (0 ∷ 0 ∷ []) (0 ∷ 0 ∷ []) (0 ∷ 1 ∷ []) }
    ∷ []

-- The lone statement: both tables pass the check.
pub starred_checked : every check (starred ++ opened) ≡ true
unfolding every check
starred_checked = refl
