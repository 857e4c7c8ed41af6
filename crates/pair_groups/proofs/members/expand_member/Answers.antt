-- `expand_member` by whether the member turns.
use borrow.Author.Rules.{rules}
use Rattle.pair_groups.specs.Carrying.{member_high, member_number, member_turns, member_straight}
use Rattle.pair_groups.proofs.members.expand_member.Goals as goal

pub turning-requires : goal.turning-requires
turning-requires c = (search rules, search member_high)

pub expand_words-requires : goal.expand_words-requires
expand_words-requires c = (search rules, search (member_turns, c.in-Some.ensures))

pub expand_slots-requires : goal.expand_slots-requires
expand_slots-requires c = (search rules, search member_number, search (member_straight, c.in-None.ensures))
