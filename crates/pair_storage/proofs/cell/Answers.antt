-- The product of two numbers of places fits, and with the higher place it is the pair's cell.
use Rattle.pair_storage.proofs.Laws.Bounds.{is_cell}
use Rattle.pair_storage.proofs.cell.Goals as goal

pub returns : goal.returns
returns c =
    is_cell c.requires.0 c.args.pair.low c.requires.1 c.requires.2 c.place_count.ensures
