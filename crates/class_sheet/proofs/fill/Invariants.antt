-- The loop keeps that the bytes of the range passed so far are filled.
use Prim.Native.Nat.{◌+◌, ◌-◌, ◌≤◌}
use Rattle.class_sheet.specs.Filling.{between, FilledBy}
use Rattle.class_sheet.proofs.fill.Given as goal

abbrev pub invariant-loop-b : goal.invariant-loop-b
invariant-loop-b l =
    FilledBy (between l.range.lowest l.b) l.range.symbol l.initial.entries l.entries l.twice
    × (l.b - l.range.lowest ≤ l.range.highest + 1 - l.range.lowest)
