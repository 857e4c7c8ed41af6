use Rattle.ban_theory.specs.Triples.{bans_from}
use Rattle.ban_copies.specs.Held.{held_own, held_again}
use Rattle.ban_copies.proofs.Laws.Filling.{filled_none, filled_more, filled_all}
use borrow.Author.Rules.{rules}
use Rattle.ban_copies.proofs.filling.fill.Goals as goal

pub loop-x-init : goal.loop-x-init
loop-x-init c = filled_none c.args.code (bans_from c.args.numbers.now c.args.bans)

pub origin_of-origin-requires : goal.origin_of-origin-requires
origin_of-origin-requires c = (held_again c.requires.2, search rules)

pub fill_row-requires : goal.fill_row-requires
fill_row-requires c = let p = c.requires in (held_own p.2, p.1, search rules)

pub loop-x-preserved : goal.loop-x-preserved
loop-x-preserved c =
    let l = c.loop-x in
    let a = c.args in
    let p = c.requires in
    filled_more a.code (bans_from a.numbers.now a.bans) p.0 p.2 l.invariant (search rules) c.origin_of-origin.ensures.0 c.fill_row.ensures

pub returns : goal.returns
returns c =
    let a = c.args in
    let p = c.requires in
    filled_all a.code (bans_from a.numbers.now a.bans) p.0 p.2 c.loop-x.invariant (search rules)
