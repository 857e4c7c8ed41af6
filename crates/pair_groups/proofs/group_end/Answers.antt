use borrow.Author.Rules.{rules}
use Rattle.pair_groups.specs.Carrying.{known_node}
use Rattle.pair_groups.proofs.Laws.Runs.{run_one, group_more, group_differs, group_last}
use Rattle.pair_groups.proofs.group_end.Goals as goal

pub key-first-requires : goal.key-first-requires
key-first-requires c = (search rules, search rules, search known_node)

pub loop-end-init : goal.loop-end-init
loop-end-init c = search run_one

pub key-requires : goal.key-requires
key-requires c = (search rules, search rules, search known_node)

pub returns-then-key-first : goal.returns-then-key-first
returns-then-key-first c =
    group_differs c.requires.0 c.requires.2 c.loop-end.invariant c.key.ensures c.key-first.ensures c.if-key-first.true

pub loop-end-preserved : goal.loop-end-preserved
loop-end-preserved c =
    group_more c.requires.0 c.requires.2 c.loop-end.invariant c.key.ensures c.key-first.ensures c.if-key-first.false (search rules)

pub returns : goal.returns
returns c = search group_last
