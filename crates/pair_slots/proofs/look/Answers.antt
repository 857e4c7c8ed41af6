-- `look` tells what stands where a slot leads; each way out is one case of `Seen`.
use Rattle.pair_slots.specs.Leaves.{seen_nowhere, seen_other, seen_marked, seen_goal, seen_fresh}
use Rattle.pair_slots.proofs.look.Goals as goal

pub returns-then-place_count-pair : goal.returns-then-place_count-pair
returns-then-place_count-pair c = search seen_nowhere

pub returns-then-symbol : goal.returns-then-symbol
returns-then-symbol c = search seen_other

pub returns-then-mark-ne0 : goal.returns-then-mark-ne0
returns-then-mark-ne0 c = search seen_marked

pub returns-then-two_ends : goal.returns-then-two_ends
returns-then-two_ends c = search seen_goal

pub returns : goal.returns
returns c = search seen_fresh
