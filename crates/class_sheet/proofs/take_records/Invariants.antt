-- The loop keeps that what is known so far and the records to come are the sheet's.
use Prim.Native.Nat.{◌+◌, ◌-◌}
use lib.ListN.{length}
use Rattle.class_sheet.proofs.Laws.Passing.{Passed}
use Rattle.class_sheet.proofs.take_records.Given as goal

abbrev pub invariant-loop-at : goal.invariant-loop-at
invariant-loop-at l = Passed l.s l.entries l.upside l.twice l.at

abbrev pub decreases-loop-at : goal.decreases-loop-at
decreases-loop-at l = length l.s + 2 - l.at
