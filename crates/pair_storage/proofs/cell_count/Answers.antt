-- The square of the number of places is the number of cells.
use Rattle.pair_storage.proofs.Laws.Bounds.{is_count}
use Rattle.pair_storage.proofs.cell_count.Goals as goal

pub returns : goal.returns
returns c = is_count c.args.places.now c.place_count-count.ensures
