-- The codes with copies that a table and its bans give, said of the value alone, so that a test can compute it. `from_bans` of Made and `to_bans` of Back show that
-- it says just this.
use Rattle.std.specs.Prelude.{◌≡◌, Bool, not, ℕ, ◌≤◌, ◌<◌, length, get_or}
use Rattle.code.specs.declared.Enlarged.{Enlarged}
use Rattle.code.specs.declared.Limits.{Limits}
use Rattle.code.specs.Definitions.Tables.{no_word, table_of}
use Rattle.code.specs.Definitions.Bans.{number_after}
use Rattle.code.specs.Definitions.Enlarged.{copies_in}
use Rattle.code.specs.Laws.Below.{Some}
use Rattle.ban_theory.specs.CopyLists.{CopyAt}
use Rattle.ban_theory.specs.Enlargements.{Fair}
use Rattle.code.specs.Laws.WellFormed.{WellFormed}

-- The number x of a code of n words and, up to `count`, copies: it is one of the word `of`, and stands after the word `behind` if it is a copy.
pub record NumberFits (n count x of behind : ℕ) : Type 0 where
  pub of_word : x < n → of ≡ x
  pub of_copy : n ≤ x → x < count → of < n
  pub of_past : count ≤ x → of ≡ 0
  pub behind_word : x < n → behind ≡ 0
  pub behind_copy : n ≤ x → x < count → behind < n
  pub behind_past : count ≤ x → behind ≡ 0
  -- 02, request 2: "Y and Z different"
  pub apart : n ≤ x → x < count → behind ≡ of → ⊥

-- All numbers of a value.
pub record Numbered (l : Limits) (e : Enlarged) : Type 0 where
  pub one : 1 ≤ e.originals
  pub most : e.originals ≤ e.code.count
  pub room : e.code.count ≤ l.words
  pub origins : length e.origins ≡ l.words
  pub behind : length e.behind ≡ l.words
  pub number : (x : ℕ) → x < l.words → NumberFits e.originals e.code.count x (get_or e.origins x 0) (get_or e.behind x 0)

-- The word w may not come behind the copy x.
abbrev pub barred : Enlarged → ℕ → ℕ → Bool
barred e x w = not ((table_of e.code).follow (number_after e.originals (copies_in e) (get_or e.origins x 0) w) x)

-- The copy x has its word's symbols, cannot begin a message, and comes from some ban.
pub record CopyFits (e : Enlarged) (x : ℕ) : Type 0 where
  pub word : get_or e.code.words x no_word ≡ get_or e.code.words (get_or e.origins x 0) no_word
  pub mark : get_or e.code.begins x 0 ≡ 0
  pub ban : Some (barred e x) e.originals

pub record WellEnlarged (l : Limits) (e : Enlarged) : Type 0 where
  pub code : WellFormed l e.code
  pub numbers : Numbered l e
  -- No two copies are of the same word after the same word.
  pub once : (y z i j : ℕ) → CopyAt (copies_in e) y z i → CopyAt (copies_in e) y z j → i ≡ j
  pub copy : (x : ℕ) → e.originals ≤ x → x < e.code.count → CopyFits e x
  -- A 1 of the matrix stands only where copies let it, and a copy is followed by nothing that its word is not.
  pub fair : Fair e.originals (copies_in e) (table_of e.code).follow
