use borrow.Author.Rules.{rules}
use Rattle.pair_groups.specs.Parts.{space}
use Rattle.pair_groups.proofs.Laws.Steps.{still_turned}
use Rattle.pair_groups.proofs.Laws.Words.{leads_comes, word_over, word_begun, words_ordered, word_next, word_goal, word_ended}
use Rattle.pair_groups.proofs.members.expand_word.Goals as goal

pub returns-then-not-leads : goal.returns-then-not-leads
returns-then-not-leads c = (search word_over, search rules)

pub loop-z-init : goal.loop-z-init
loop-z-init c = (search word_begun, search rules, search rules, search rules)

pub meet_words-requires : goal.meet_words-requires
meet_words-requires c = (search rules, search space, search rules, search leads_comes, search words_ordered, search rules)

pub returns-in_err-tail : goal.returns-in_err-tail
returns-in_err-tail c = rw c.from_residual.ensures (search (word_goal, c.in_err-tail.was), search still_turned)

pub loop-z-preserved : goal.loop-z-preserved
loop-z-preserved c = (search (word_next, c.in_ok-tail.was), search still_turned, search rules, search rules)

pub returns : goal.returns
returns c = (search word_ended, search rules)
