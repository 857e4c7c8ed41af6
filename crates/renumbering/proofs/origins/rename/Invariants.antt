-- The loop names the words from the front.
use Prim.Native.Nat.{ℕ}
use lib.ListN.{take, drop, get_or}
use mathlib.Core.List.{◌++◌, map}
use mathlib.Core.Path.{◌≡◌}
use Rattle.renumbering.proofs.origins.rename.Given as goal

abbrev pub invariant-loop-word : goal.invariant-loop-word
invariant-loop-word l =
    let was = l.initial.word-items in l.word-items ≡ map (λ (x : ℕ). get_or l.names x 0) (take l.word-index was) ++ drop l.word-index was
