-- `pair_longest::visit` meets its contract: the words have no first pair; or its longest walk counts beside those before; or there is none.
use Rattle.pair_longest.specs.Answer.{was_unbounded}
use Rattle.pair_longest.specs.Visit.{visit_nowhere, visit_root, visit_more}
use Rattle.pair_longest.proofs.visit.Goals as goal

pub returns-then-place_count-first : goal.returns-then-place_count-first
returns-then-place_count-first c = search visit_nowhere

pub explore-requires : goal.explore-requires
explore-requires c = search visit_root

pub returns-in_err-count : goal.returns-in_err-count
returns-in_err-count c = rw c.from_residual.ensures (search (was_unbounded, c.in_err-count.was))

pub returns : goal.returns
returns c = search (visit_more, c.in_ok-count.was)
