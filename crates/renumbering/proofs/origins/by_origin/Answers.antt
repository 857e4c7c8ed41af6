use borrow.Author.Rules.{rules}
use native.Mathlib.Omega.{arith}
use Rattle.code.specs.Definitions.Sheets.{limits}
use Rattle.code.specs.Laws.Cells.{zeros}
use Rattle.renumbering.specs.Listing.{listed_none}
use Rattle.renumbering.specs.Origins.{word_room, word_listed, word_done, by_origin_lem}
use Rattle.renumbering.proofs.origins.by_origin.Goals as goal

pub loop-z-init : goal.loop-z-init
loop-z-init c = listed_none _ _ _ (zeros limits.words) (search rules)

pub bounds-numbers-at : goal.bounds-numbers-at
bounds-numbers-at c = omega (arith, word_room c.requires _ (search rules) c.loop-z.invariant)

pub overflow_add-at : goal.overflow_add-at
overflow_add-at c = omega (arith, word_room c.requires _ (search rules) c.loop-z.invariant)

pub list_copies-at-requires : goal.list_copies-at-requires
list_copies-at-requires c =
    let p = c.requires in
    let l = c.loop-z in
    (p, word_listed p l.z (search rules) l.invariant)

pub loop-z-preserved : goal.loop-z-preserved
loop-z-preserved c = word_done c.requires _ c.list_copies-at.ensures

pub returns : goal.returns
returns c = by_origin_lem c.requires c.loop-z.invariant (search rules)
