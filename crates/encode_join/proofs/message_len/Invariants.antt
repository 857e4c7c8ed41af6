-- The loop keeps that the sum is the length of the message of the entries passed, and within the limit.
use mathlib.Core.Path.{◌≡◌}
use Prim.Native.Nat.{◌≤◌}
use lib.ListN.{length}
use Rattle.code.specs.Definitions.Sheets.{limits}
use Rattle.encode_join.specs.Passes.{message_below}
use Rattle.encode_join.proofs.message_len.Given as goal

abbrev pub invariant-loop-x : goal.invariant-loop-x
invariant-loop-x l = (l.sum ≡ length (message_below l.code l.words l.x-index)) × (l.sum ≤ limits.message)
