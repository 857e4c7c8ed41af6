-- `pair_heights::pass` meets its contract: the mark and the entry of the pair on top are what it says.
use borrow.Author.Rules.{rules}
use Rattle.pair_heights.specs.Search.{top_within, top_marked, top_rises}
use Rattle.pair_heights.specs.Pass.{pass_stores}
use Rattle.pair_heights.proofs.pass.Goals as goal

pub pair_at-pair-requires : goal.pair_at-pair-requires
pair_at-pair-requires c = search top_within

pub above_at-requires : goal.above_at-requires
above_at-requires c = search top_within

pub mark-mark-requires : goal.mark-mark-requires
mark-mark-requires c = search top_marked

pub store-requires : goal.store-requires
store-requires c = (search (rules, top_marked), search top_within, search rules, search top_rises)

pub returns : goal.returns
returns c = search pass_stores
