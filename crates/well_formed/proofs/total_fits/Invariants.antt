-- `total_fits` says exactly whether the words together are short enough. The invariant: `room` is what the symbols of the words so far leave of one more than
-- the limit.
use mathlib.Core.Path.{◌≡◌}
use Prim.Native.Nat.{◌-◌}
use Rattle.code.specs.Definitions.Lists.{tabulate, sum}
use Rattle.code.specs.Laws.WellFormed.{len_of}
use Rattle.well_formed.proofs.total_fits.Given as goal

abbrev pub invariant-loop-word : goal.invariant-loop-word
invariant-loop-word l = l.room ≡ 129 - sum (tabulate (len_of l.fn.code) l.word-index)
