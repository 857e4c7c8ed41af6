-- One store in the pair's cell, of the new mark and the old link.
use Rattle.pair_storage.specs.Stores.{mark_written, mark_stored}
use Rattle.pair_storage.proofs.set_mark.Goals as goal

pub returns : goal.returns
returns c =
    mark_stored c.args.pair c.requires.0 c.requires.1
    (mark_written c.args.work.now c.cell-at.result c.args.mark _ c.cell-at.ensures.0 c.both.ensures c.link_in-link.ensures.0)
