-- The loop keeps that the survey so far, gone on with the records to come, is the survey of all.
use Prim.Native.Nat.{◌+◌, ◌-◌}
use lib.ListN.{length}
use Rattle.sheet_survey.specs.Passing.{Passed}
use Rattle.sheet_survey.proofs.survey_all.Given as goal

abbrev pub invariant-loop-c : goal.invariant-loop-c
invariant-loop-c l = Passed l.s l.c

abbrev pub decreases-loop-c : goal.decreases-loop-c
decreases-loop-c l = length l.s + 1 - l.c.at
