-- `pair_heights::follow` meets its contract: each way out is one transition of the state, or closes a cycle.
use borrow.Author.Rules.{rules}
use Rattle.pair_heights.specs.Follow.{follow_nowhere, follow_pass, follow_cycle, push_room, push_small, follow_push}
use Rattle.pair_heights.proofs.follow.Goals as goal

pub returns-then-place_count-next : goal.returns-then-place_count-next
returns-then-place_count-next c = search follow_nowhere

pub store-requires : goal.store-requires
store-requires c = (search rules, search push_room, search rules, search rules)

pub overflow_add-result : goal.overflow_add-result
overflow_add-result c = search push_small

pub returns-then-met-eq0 : goal.returns-then-met-eq0
returns-then-met-eq0 c = search follow_push

pub returns-then-met-lt-FINISHED : goal.returns-then-met-lt-FINISHED
returns-then-met-lt-FINISHED c = search follow_cycle

pub returns : goal.returns
returns c = search follow_pass
