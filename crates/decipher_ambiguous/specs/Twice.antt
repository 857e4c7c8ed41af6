-- Reading a message that has several readings finds the first two, and no other answer is possible.
use Rattle.std.specs.Prelude.{◌≡◌, List, ℕ, length, Option}
use Rattle.std.proofs.Common.{sym, ◌∙◌}
use Rattle.code.specs.declared.SymbolCount.{SymbolCount}
use Rattle.code.specs.declared.WordCount.{WordCount}
use Rattle.code.specs.declared.Verdict.{Verdict}
use Rattle.code.specs.declared.Verdict.TheVariants.{Ambiguous as Two-ways}
use Rattle.code.specs.Definitions.Operations.{written, zeroed}
use Rattle.code.specs.Definitions.Readings.{FirstTwo, TwoReadings}
use Rattle.code.specs.Definitions.Tables.{Table}
use Rattle.code.specs.declared.Readings.{Readings}
use Rattle.read_core.specs.Core.{Finds, unreadable, one, two, FindsAll}
use Rattle.read_core.specs.Counts.{first_count, second_count}

-- The first two readings of m stand in the reading buffers, and the verdict has the three lengths. f, g and w are what the buffers held, f', g' and w' what
-- they hold.
pub data ReadTwice (t : Table) (m f g w f' g' w' : List ℕ) : Verdict → Type 0 where
  twice : {n : SymbolCount} {a b : WordCount} {s u : List ℕ} → FirstTwo t m s u → length m ≡ n.0 → length s ≡ a.0 → length u ≡ b.0
      → f' ≡ written s f → g' ≡ written u g → w' ≡ zeroed w → ReadTwice t m f g w f' g' w' (Two-ways n a b)

-- A message with two readings gets no other answer, and the counts of what was found are the lengths of its first two.
pub finds_twice : {t : Table} {m f g w f' g' w' : List ℕ} {r : Option Readings} {n : SymbolCount} {a b : WordCount} → FindsAll t m f g w f' g' w' r → TwoReadings t m
    → n.0 ≡ length m → a.0 ≡ first_count r → b.0 ≡ second_count r → ReadTwice t m f g w f' g' w' (Two-ways n a b)
finds_twice {t} {m} {f} {g} {w} {f'} {g'} {w'} {r} {n} {a} {b} found h l i j = by found.finds i j
  where
    by : {r : Option Readings} → Finds t m f g f' g' r → a.0 ≡ first_count r → b.0 ≡ second_count r → ReadTwice t m f g w f' g' w' (Two-ways n a b)
    by (unreadable none p q) i j = absurd (none h.s h.first)
    by (one o e p q) i j = absurd (h.differ (o.only h.s h.first ∙ sym (o.only h.u h.second)))
    by (two o e k p q) i j = twice o (sym l) (sym (i ∙ e)) (sym (j ∙ k)) p q found.work
