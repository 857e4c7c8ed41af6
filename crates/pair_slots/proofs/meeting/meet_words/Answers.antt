-- `meet_words` meets the first pair of the two words where both may come, which is where their slot leads; else the slot leads nowhere.
use borrow.Author.Rules.{rules}
use Rattle.pair_slots.specs.Words.{left_known, right_known, meets_pair, meets_none}
use Rattle.pair_slots.proofs.meeting.meet_words.Goals as goal

pub first_pair-requires : goal.first_pair-requires
first_pair-requires c = (search rules, search left_known, search right_known)

pub returns-then-may_come : goal.returns-then-may_come
returns-then-may_come c = search meets_pair

pub returns : goal.returns
returns c = search meets_none
