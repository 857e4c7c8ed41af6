-- A case: a code's words, start marks and rows, and what is expected of it. A check that computes is shown once, for all cases, to give what the definitions say.
use Rattle.std.specs.Prelude.{◌≡◌, Bool, true, false, ◌&&◌, List, [], ℕ, leb, eqb, length, get_or}
use Rattle.std.proofs.Common.{leb-true}
use Rattle.code.specs.Definitions.Tables.{Table, size, word}
use Rattle.code.specs.Definitions.Readings.{OnlyReading, Ambiguous, Decipherable}
use Rattle.code.specs.Definitions.Delays.{Delay, WithoutBound}
use Rattle.code.specs.Laws.Sequences.{NonEmpty}
use Rattle.pair_theory.specs.Bounded.{every_below, every_below_lem}
use Rattle.cases.specs.Delays.{delay_is, is_without_bound}
use Rattle.cases.specs.Messages.{least_is}
use Rattle.cases.specs.Enumeration.{readings}
use Rattle.cases.specs.Readings.{only_of, first_two_of}

-- A verdict of each kind, or the only reading of a message.
pub data Expected : Type 0 where
  delay : (N : ℕ) → Expected
  without_bound : Expected
  ambiguous : (m s u : List ℕ) → Expected
  only_reading : (m s : List ℕ) → Expected

pub record Case : Type 0 where
  pub words : List (List ℕ)
  pub begins : List ℕ
  pub rows : List (List ℕ)
  pub expected : Expected

-- 01: "The entry in row X, column Y is 1 if X may come immediately after Y, else 0". 02, request 1: "1 if the word may begin a message, 0 if not"
abbrev pub case_table : Case → Table
case_table c = record {
  words = c.words;
  follow = λ x y. eqb (get_or (get_or c.rows x []) y 0) 1;
  begins = λ x. eqb (get_or c.begins x 0) 1;
  banned = λ x y z. false;
}

-- What is expected, by the definitions. 01: "decipherable with its delay; decipherable without bound"
abbrev pub Means : Table → Expected → Type 0
Means t (delay N) = Decipherable t × Delay t N
Means t without_bound = Decipherable t × WithoutBound t
Means t (ambiguous m s u) = Ambiguous t m s u
Means t (only_reading m s) = OnlyReading t m s

-- What is expected of the case's code holds.
abbrev pub Holds : Case → Type 0
Holds c = Means (case_table c) c.expected

unfoldable pub is_non_empty : Table → Bool
unfolding every_below
is_non_empty t = every_below (λ x. leb 1 (length (word t x))) (size t)

unfoldable pub is_meant : Table → Expected → Bool
unfolding delay_is is_without_bound least_is readings only_of first_two_of
is_meant t (delay N) = delay_is t N
is_meant t without_bound = is_without_bound t
is_meant t (ambiguous m s u) = least_is t m && first_two_of (readings t m) s u
is_meant t (only_reading m s) = only_of (readings t m) s

-- The words are not empty, and the layers of pairs and the lists of readings show what is expected.
unfoldable pub check_table : Table → Expected → Bool
unfolding is_non_empty is_meant
check_table t x = is_non_empty t && is_meant t x

unfoldable pub check : Case → Bool
unfolding check_table
check c = check_table (case_table c) c.expected

pub non_empty : (t : Table) → is_non_empty t ≡ true → NonEmpty t
unfolding is_non_empty
non_empty t e x h = leb-true 1 (length (word t x)) (every_below_lem (λ z. leb 1 (length (word t z))) (size t) e x h)
