-- The loop keeps that the message of the entries passed is written, and that `at` is its length.
use mathlib.Core.Path.{◌≡◌}
use lib.ListN.{length}
use Rattle.code.specs.Definitions.Operations.{written}
use Rattle.encode_join.specs.Passes.{message_below}
use Rattle.encode_join.proofs.write_message.Given as goal

abbrev pub invariant-loop-x : goal.invariant-loop-x
invariant-loop-x l = (l.at ≡ length (message_below l.code l.words l.x-index)) × (l.message ≡ written (message_below l.code l.words l.x-index) l.initial.message)
