-- `meet` by what stands at the pair: nothing new, a goal, or a pair that is marked and queued.
use borrow.Author.Rules.{rules}
use Rattle.pair_slots.proofs.Laws.Arrivals.{above_fits, fresh_low, meets_known, meets_goal, meets_fresh}
use Rattle.pair_slots.proofs.meeting.meet.Goals as goal

pub store-requires : goal.store-requires
store-requires c = (
  record { laid = search rules; size = search rules; low = search (rules, fresh_low); high = search (rules, fresh_low) },
  search rules,
  search above_fits,
  search rules,
)

pub returns-in-Passed : goal.returns-in-Passed
returns-in-Passed c = search meets_known

pub returns-in-Goal : goal.returns-in-Goal
returns-in-Goal c = search meets_goal

pub returns-in-Fresh : goal.returns-in-Fresh
returns-in-Fresh c = search meets_fresh
