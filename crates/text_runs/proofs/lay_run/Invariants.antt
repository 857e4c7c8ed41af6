-- `lay_run` meets its contract. The loop's invariant: all bytes passed are letters, and their symbols are laid.
use Rattle.text_runs.specs.Runs.{Laying}
use Rattle.text_runs.proofs.lay_run.Given as goal

abbrev pub invariant-loop-i : goal.invariant-loop-i
invariant-loop-i l = Laying l.classes l.text l.initial.message l.message l.i
