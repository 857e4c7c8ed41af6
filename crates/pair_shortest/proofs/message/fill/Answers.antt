use borrow.Author.Rules.{rules}
use Rattle.pair_shortest.specs.Spelling.{fill_begin, fill_some, fill_end}
use Rattle.pair_shortest.specs.Writing.{fill_within, fill_place, link_from, link_falls, fill_store}
use Rattle.pair_shortest.proofs.message.fill.Goals as goal

pub loop-index-init : goal.loop-index-init
loop-index-init c = (search fill_begin, search rules)

pub overflow_sub-at : goal.overflow_sub-at
overflow_sub-at c = search fill_some

pub bounds-places-pair_at : goal.bounds-places-pair_at
bounds-places-pair_at c = search fill_place

pub bounds-message-at : goal.bounds-message-at
bounds-message-at c = search fill_within

pub overflow_sub-index : goal.overflow_sub-index
overflow_sub-index c = search link_from

pub loop-index-smaller : goal.loop-index-smaller
loop-index-smaller c = search link_falls

pub loop-index-preserved : goal.loop-index-preserved
loop-index-preserved c = (search fill_store, search rules)

pub returns : goal.returns
returns c = search fill_end
