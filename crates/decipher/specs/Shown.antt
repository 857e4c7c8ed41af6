-- What an ambiguous verdict leaves at the start of the buffers: the message, and its first two readings.
use Rattle.std.proofs.Common.{sym}
use Rattle.std.specs.Prelude.{List, ℕ, take, Ok}
use Rattle.code.specs.declared.Enlarged.{Enlarged}
use Rattle.code.specs.declared.Limits.{Limits}
use Rattle.code.specs.declared.SymbolCount.{SymbolCount}
use Rattle.code.specs.declared.WordCount.{WordCount}
use Rattle.code.specs.declared.Verdict.TheVariants.{Ambiguous as Two-ways}
use Rattle.code.specs.Definitions.Enlarged.{original_table}
use Rattle.code.specs.Definitions.Operations.{Judges, judged}
use Rattle.code.specs.Definitions.Readings.{Ambiguous}
use Rattle.code.specs.Laws.Buffers.{take-written}

-- The three lengths of an ambiguous verdict take the message and its first two readings from the buffers.
pub judged_ambiguous : {l : Limits} {e : Enlarged} {m f g w m' f' g' w' : List ℕ} {n : SymbolCount} {a b : WordCount}
    → Judges l e m f g w m' f' g' w' (Ok (Two-ways n a b)) → Ambiguous (original_table e) (take n.0 m') (take a.0 f') (take b.0 g')
judged_ambiguous {m = m} {f = f} {g = g} {m' = m'} {f' = f'} {g' = g'} {n = n} {a = a} {b = b} (judged x s u h means shown z) =
    rw (
      take-written n.0 x m m' (sym means.1) shown.0,
      take-written a.0 s f f' (sym means.2) shown.1,
      take-written b.0 u g g' (sym means.3) shown.2,
    ) means.0
