-- The loop keeps that the bans stored and the records to come are the list's.
use mathlib.Core.Path.{◌≡◌}
use Prim.Native.Nat.{◌+◌, ◌-◌}
use lib.ListN.{length}
use Rattle.ban_list.proofs.Laws.Passing.{Passed}
use Rattle.ban_list.proofs.read_records.Given as goal

abbrev pub invariant-loop-at : goal.invariant-loop-at
invariant-loop-at l = Passed l.words l.s l.numbers l.k l.at × (length l.numbers ≡ length l.initial.numbers)

abbrev pub decreases-loop-at : goal.decreases-loop-at
decreases-loop-at l = length l.s + 2 - l.at
