-- What the tests of a value ask.
use Rattle.std.specs.Prelude.{◌≡◌, List, ℕ, ◌+◌, ◌-◌, ◌≤◌, ◌<◌, get_or}
use Rattle.code.specs.declared.Enlarged.{Enlarged}
use Rattle.code.specs.declared.Limits.{Limits}
use Rattle.code.specs.Definitions.Tables.{no_row}
use Rattle.code.specs.Definitions.Lists.{tabulate}
use Rattle.code.specs.Definitions.Bans.{Copy, number_after}
use Rattle.code.specs.Definitions.Enlarged.{copies_in}
use Rattle.well_enlarged.specs.WellEnlarged.{NumberFits, CopyFits}

-- number x, as a copy
abbrev pub number_of : List ℕ → List ℕ → ℕ → Copy
number_of origins behind x = record { behind = get_or behind x 0; of = get_or origins x 0 }

-- the copies from n on, up to the count
abbrev pub copies_at : List ℕ → List ℕ → ℕ → ℕ → List Copy
copies_at origins behind n count = tabulate (λ i. number_of origins behind (n + i)) (count - n)

abbrev pub NumbersFit : Limits → Enlarged → Type 0
NumbersFit l e = (x : ℕ) → x < l.words → NumberFits e.originals e.code.count x (get_or e.origins x 0) (get_or e.behind x 0)

-- The copy x is the one that stands for its word where it stands.
abbrev pub AtOwnPlace : Enlarged → ℕ → Type 0
AtOwnPlace e x = number_after e.originals (copies_in e) (get_or e.behind x 0) (get_or e.origins x 0) ≡ x

abbrev pub CopiesFit : Enlarged → Type 0
CopiesFit e = (x : ℕ) → e.originals ≤ x → x < e.code.count → AtOwnPlace e x × CopyFits e x

-- Entry y of row x is 0; or x is the number of its word after the word of y, and may follow this.
pub record EntryFits (e : Enlarged) (x y : ℕ) : Type 0 where
  pub base : get_or (get_or e.code.rows x no_row).entries y 0 ≡ 1 → get_or (get_or e.code.rows x no_row).entries (get_or e.origins y 0) 0 ≡ 1
  pub only : get_or (get_or e.code.rows x no_row).entries y 0 ≡ 1 → number_after e.originals (copies_in e) (get_or e.origins y 0) (get_or e.origins x 0) ≡ x

abbrev pub RowFits : Enlarged → ℕ → Type 0
RowFits e x = (y : ℕ) → y < e.code.count → EntryFits e x y

abbrev pub MatrixFits : Enlarged → Type 0
MatrixFits e = (x : ℕ) → x < e.code.count → RowFits e x
