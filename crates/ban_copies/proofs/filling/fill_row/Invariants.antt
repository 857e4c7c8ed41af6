-- The loop fills the entries from the front; what stays zero stands past the last copy.
use mathlib.Core.Path.{◌≡◌}
use mathlib.Core.List.{◌++◌}
use lib.ListN.{drop, replicate}
use Rattle.code.specs.Definitions.Lists.{tabulate}
use Rattle.code.specs.Definitions.Sheets.{limits}
use Rattle.ban_theory.specs.Triples.{bans_from}
use Rattle.ban_copies.specs.Coming.{entry_by}
use Rattle.ban_copies.proofs.filling.fill_row.Given as goal

abbrev pub invariant-loop-y : goal.invariant-loop-y
invariant-loop-y l = l.filled.entries ≡ tabulate (entry_by l.row.entries l.copies.originals (bans_from l.numbers l.bans) l.x) l.y ++ drop l.y (replicate limits.words 0)
