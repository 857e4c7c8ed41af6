-- The run ends at another byte, or with the text.
use native.Mathlib.Omega.{arith}
use Rattle.text_runs.specs.Runs.{run_stops, run_ends}
use Rattle.text_runs.proofs.lay_run.Goals as goal

pub returns-then-class-ge-OTHER : goal.returns-then-class-ge-OTHER
returns-then-class-ge-OTHER c =
    run_stops _ _ c.loop-i.invariant c.requires c.loop-i-test.true c.class_of-class.ensures c.if-class-ge-OTHER.true

pub returns : goal.returns
returns c = run_ends _ _ c.loop-i.invariant c.requires (omega arith)
