use borrow.Author.Rules.{rules}
use Rattle.pair_groups.specs.Parts.{goal_again, group_done, group_known, group_within, known_again}
use Rattle.pair_groups.specs.Symbols.{symbols_passed, symbol_next}
use Rattle.pair_groups.proofs.expand_group.Goals as goal

pub next_symbol-symbol-requires : goal.next_symbol-symbol-requires
next_symbol-symbol-requires c = (search rules, search group_known, search group_within, search rules)

pub loop-symbol-init : goal.loop-symbol-init
loop-symbol-init c = (search symbols_passed, search rules, search group_within)

pub next_symbol-symbol-requires-in-loop-symbol : goal.next_symbol-symbol-requires-in-loop-symbol
next_symbol-symbol-requires-in-loop-symbol c =
    (search rules, known_again c.expand_symbol.ensures c.in_ok-tail.was, search rules, search rules)

pub returns-in_err-tail : goal.returns-in_err-tail
returns-in_err-tail c = rw c.from_residual.ensures (search (goal_again, c.in_err-tail.was))

pub loop-symbol-preserved : goal.loop-symbol-preserved
loop-symbol-preserved c = (search (symbol_next, c.in_ok-tail.was), search rules, search rules)

pub returns : goal.returns
returns c = search group_done
