-- Splitting by the classes of an accepted class sheet: the signs that it puts in are no letters, so every letter of a text stands in its output once, in order.
use Rattle.std.specs.Prelude.{◌≡◌, List, ℕ}
use Rattle.code.specs.declared.Classes.{Classes}
use Rattle.code.specs.declared.Limits.{Limits}
use Rattle.code.specs.Definitions.ClassSheets.{FromClassSheet}
use Rattle.code.specs.Definitions.Tables.{Table}
use Rattle.code.specs.Definitions.Texts.{is_letter, Splits}
use Rattle.text_theory.specs.Signs.{those}
use Rattle.text_theory.proofs.Signs.{splits_letters}
use Rattle.well_classed.specs.Given.{given_well}
use Rattle.well_classed.specs.Signs.{signs_no_letters}

-- 02, request 4: "Every input letter stands in the output once, in order."
pub letters_stay : {l : Limits} {t : Table} {c : Classes} {s o : List ℕ} → FromClassSheet l c → Splits t c.entries s o
    → those (is_letter c.entries) o ≡ those (is_letter c.entries) s
letters_stay f = splits_letters (signs_no_letters (given_well f))
