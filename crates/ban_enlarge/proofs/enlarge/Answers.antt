-- `enlarge` tests the refusals in their order; each way out is one lemma of Ways.
use Rattle.std.proofs.Common.{ap, not}
use borrow.Author.Rules.{rules}
use Rattle.ban_enlarge.specs.Ways.{plain_few, plain_formed, bans_known, way_long, way_copies, way_wrong, way_bans}
use Rattle.ban_enlarge.proofs.enlarge.Goals as goal

pub returns-then-list-gt-BYTES : goal.returns-then-list-gt-BYTES
returns-then-list-gt-BYTES c = search way_long

pub returns-then-not-without_copies : goal.returns-then-not-without_copies
returns-then-not-without_copies c = search way_copies

pub read_bans-requires : goal.read_bans-requires
read_bans-requires c = (search plain_few, search rules)

pub enlarge_by-requires : goal.enlarge_by-requires
enlarge_by-requires c = let listed = c.in-Some.ensures.0 in (search plain_formed, listed.2, bans_known _ _ _ _ listed)

pub returns-in-None : goal.returns-in-None
returns-in-None c = way_wrong c.if-list-gt-BYTES.false c.without_copies.ensures (ap not c.if-not-without_copies.false) c.in-None.ensures.0 c.refuse-in-None.ensures

pub returns-in-Some : goal.returns-in-Some
returns-in-Some c = way_bans c.if-list-gt-BYTES.false c.without_copies.ensures (ap not c.if-not-without_copies.false) _ _ c.in-Some.ensures.0 c.enlarge_by.ensures
