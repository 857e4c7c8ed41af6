use borrow.Author.Rules.{rules}
use native.Mathlib.Omega.{arith}
use mathlib.Core.Path.{◌≡◌}
use lib.ListN.{length, get_or}
use Rattle.code.specs.Laws.Lists.{get_or_within}
use Rattle.renumbering.specs.Reordering.{filled_none, reordered_more, reordered_all}
use Rattle.renumbering.proofs.reorder_entries.Goals as goal

pub loop-i-init : goal.loop-i-init
loop-i-init g c = λ none. filled_none _ _ _

pub loop-i-preserved : goal.loop-i-preserved
loop-i-preserved g c = λ none.
    let a = c.args in
    let array : length a.entries ≡ 32 = search rules in
    let known = c.requires.known c.loop-i.i (search rules) in
    rw (get_or_within a.entries (get_or a.old c.loop-i.i 0) c.index-entries-old.result none (omega (arith, known, c.requires.most)))
    (reordered_more _ _ none _ c.requires array (c.loop-i.invariant none) (search rules))

pub returns : goal.returns
returns g c = λ none. reordered_all _ _ none _ c.requires (search rules) (c.loop-i.invariant none) (search rules)
