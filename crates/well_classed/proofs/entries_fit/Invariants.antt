-- `entries_fit` says exactly whether every entry is small and some byte is a letter. The invariant: `small` and `letter` say so of the entries so far.
use Rattle.std.proofs.Common.{ℕ, ◌≤◌, ◌<◌}
use Rattle.code.specs.Definitions.Texts.{other, class_of, is_letter}
use Rattle.code.specs.Laws.Below.{Some}
use Rattle.code.specs.Laws.Exactly.{Exactly}
use Rattle.well_classed.proofs.entries_fit.Given as goal

abbrev pub invariant-loop-class : goal.invariant-loop-class
invariant-loop-class l =
    Exactly l.small ((b : ℕ) → b < l.class-index → class_of l.classes b ≤ other) × Exactly l.letter (Some (is_letter l.classes) (l.class-index))
