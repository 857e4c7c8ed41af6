-- The kind of a word: by what reading finds, and what it means.
use Rattle.std.proofs.Common.{ap, arith, length-append}
use Rattle.std.specs.Prelude.{List, ℕ, ◌≤◌, length, take, drop, Option, None, Some}
use Rattle.code.specs.declared.WordCount.{WordCount}
use Rattle.code.specs.Definitions.Readings.{NoReading, OnlyReading, TwoReadings}
use Rattle.code.specs.Definitions.Tables.{Table}
use Rattle.code.specs.Laws.Buffers.{take-written}
use Rattle.code.specs.Laws.Readings.{first_two_readings}
use Rattle.code.specs.declared.Readings.{Readings}
use Rattle.code.specs.declared.Readings.TheVariants.{One, Two}
use Rattle.read_core.specs.Core.{Finds, unreadable, one, two}
use Rattle.text_syllables.specs.declared.Kind.{Kind}
use Rattle.text_syllables.specs.declared.Kind.TheVariants.{Split, Several}

abbrev pub kind_of : Option Readings → Kind
kind_of None = Kind.None
kind_of (Some (One n)) = Split n
kind_of (Some (Two n k)) = Several

-- A word with the symbols m is of this kind. The reading of a word that is split stands at the start of the buffer f.
pub data IsOfKind (t : Table) (m f : List ℕ) : Kind → Type 0 where
  split : {c : WordCount} → c.0 ≤ length f → OnlyReading t m (take c.0 f) → IsOfKind t m f (Split c)
  none : NoReading t m → IsOfKind t m f Kind.None
  several : TwoReadings t m → IsOfKind t m f Several

-- What reading finds says the kind.
pub found_kind : {t : Table} {m f g f' g' : List ℕ} {r : Option Readings} → Finds t m f g f' g' r → IsOfKind t m f' (kind_of r)
found_kind (unreadable n p q) = none n
found_kind {t} {m} {f} {f' = f'} (one {c} {s} o e p q) =
    let only : OnlyReading t m (take c.0 f') = rw (take-written c.0 s f f' e p) o in
    split {c = c} (omega (arith, e, ap length p, length-append s (drop (length s) f))) only
found_kind (two o c d p q) = several (first_two_readings o)
