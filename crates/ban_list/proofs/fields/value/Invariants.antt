-- The loop keeps what the digits so far stand for; each way out is one of a byte's.
use Rattle.ban_list.specs.Numbers.{Summed}
use Rattle.ban_list.proofs.fields.value.Given as goal

abbrev pub invariant-loop-b : goal.invariant-loop-b
invariant-loop-b l = Summed l.words l.field l.sum l.b-index
