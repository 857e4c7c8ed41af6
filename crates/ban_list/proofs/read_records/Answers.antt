use Rattle.std.proofs.Common.{◌∙◌}
use borrow.Author.Rules.{rules}
use Rattle.ban_list.proofs.Laws.Passing.{passing_starts, passing_on, passing_ends}
use Rattle.ban_list.proofs.read_records.Goals as goal

pub loop-at-init : goal.loop-at-init
loop-at-init c = (search passing_starts, search rules)

pub loop-at-preserved : goal.loop-at-preserved
loop-at-preserved c = (passing_on c.loop-at.invariant.0 c.loop-at-test.true c.in_ok-ban.ensures c.store.ensures, c.store.ensures.long ∙ c.loop-at.invariant.1)

pub returns : goal.returns
returns c = search passing_ends
