-- The value of a table whose words are put in another order.
use Rattle.std.specs.Prelude.{List, ℕ, ltb, get_or, if◌then◌else◌}
use Rattle.code.specs.declared.Row.{Row}
use Rattle.code.specs.declared.Code.{Code}
use Rattle.code.specs.declared.Limits.{Limits}
use Rattle.code.specs.Definitions.Lists.{tabulate}
use Rattle.code.specs.Definitions.Tables.{no_word, no_row}

-- 02, request 14: "with n words only its first n entries count": past the words each number stays.
abbrev pub number_at : ℕ → (ℕ → ℕ) → ℕ → ℕ
number_at n number i = if ltb i n then number i else i

-- 02, request 14: "Entry i of the list is the old number of the word that becomes i"
abbrev pub old_number : List ℕ → ℕ → ℕ → ℕ
old_number old n i = number_at n (λ k. get_or old k 0) i

module _ (l : Limits) (old : List ℕ) (n : ℕ) where
  -- the array in which each entry stands at its new number
  abbrev pub reordered : {A : Type 0} → A → List A → List A
  reordered none a = tabulate (λ i. get_or a (old_number old n i) none) l.words

  abbrev pub reordered_row : Row → Row
  reordered_row r = record { entries = reordered 0 r.entries }

-- 02, request 14: "gives the table so renumbered, with start marks"
unfoldable pub renumbered_code : Limits → List ℕ → Code → Code
renumbered_code l old c = record {
  words = reordered l old c.count no_word c.words;
  rows = tabulate (λ i. reordered_row l old c.count (get_or c.rows (old_number old c.count i) no_row)) l.words;
  begins = reordered l old c.count 0 c.begins;
  count = c.count;
}
