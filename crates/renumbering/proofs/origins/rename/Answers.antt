-- The next word is still there, and is replaced.
use native.Mathlib.Omega.{arith}
use Prim.Native.Nat.{ℕ}
use lib.ListN.{get_or}
use Rattle.std.proofs.lemmas.List.Edits.{map_over_more}
use Rattle.code.specs.Laws.Lists.{get_or_within}
use Rattle.renumbering.proofs.origins.rename.Goals as goal

pub loop-word-preserved : goal.loop-word-preserved
loop-word-preserved c =
    let l = c.loop-word in
    let word = get_or l.word-items l.word-index 0 in
    map_over_more (λ (x : ℕ). get_or c.args.names.now x 0) _ l.word-items l.word-index word (omega arith) l.invariant
    (get_or_within l.word-items l.word-index 0 word (omega arith))
