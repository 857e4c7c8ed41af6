-- The loop writes each word's own number; what stays zero stands where no word and no copy is.
use mathlib.Core.Path.{◌≡◌}
use mathlib.Core.List.{[], ◌++◌}
use lib.ListN.{drop, replicate}
use Rattle.code.specs.Definitions.Bans.{origin}
use Rattle.code.specs.Definitions.Lists.{tabulate}
use Rattle.code.specs.Definitions.Sheets.{limits}
use Rattle.ban_copies.proofs.adding.no_copies.Given as goal

abbrev pub invariant-loop-x : goal.invariant-loop-x
invariant-loop-x l = l.origins ≡ tabulate (origin l.n []) l.x ++ drop l.x (replicate limits.words 0)
