-- The loop fills the symbols from the front; what stays blank is what the definition has past the word.
use mathlib.Core.Path.{◌≡◌}
use mathlib.Core.List.{◌++◌}
use lib.ListN.{length, drop, replicate}
use Rattle.code.specs.Definitions.Lists.{tabulate}
use Rattle.csv_records.specs.Fields.{leading}
use Rattle.csv_records.specs.Symbols.{field_symbol}
use Rattle.sheet_table.proofs.read_word.Given as goal

abbrev pub invariant-loop-k : goal.invariant-loop-k
invariant-loop-k l = (length l.word.symbols ≡ 16) × (l.word.symbols ≡ tabulate (field_symbol (leading (drop l.at l.s))) l.k ++ drop l.k (replicate 16 0)) × (l.word.len ≡ l.n)
