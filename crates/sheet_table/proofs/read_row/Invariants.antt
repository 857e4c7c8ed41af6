-- The loop fills the entries from the front; what stays blank is what the definition has past the row.
use mathlib.Core.Path.{◌≡◌}
use mathlib.Core.List.{◌++◌}
use lib.ListN.{length, drop, replicate}
use Rattle.code.specs.Definitions.Lists.{tabulate}
use Rattle.sheet_table.specs.Building.{row_byte}
use Rattle.sheet_table.proofs.read_row.Given as goal

abbrev pub invariant-loop-y : goal.invariant-loop-y
invariant-loop-y l = (length l.row.entries ≡ 32) × (l.row.entries ≡ tabulate (row_byte l.s l.at l.n) l.y ++ drop l.y (replicate 32 0))
