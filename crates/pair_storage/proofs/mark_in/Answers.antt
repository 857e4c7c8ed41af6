-- What a mask leaves of a stored number is its mark.
use Rattle.pair_storage.proofs.Laws.Bounds.{mark_masked}
use Rattle.pair_storage.specs.Fields.{mark_fits}
use Rattle.pair_storage.proofs.mark_in.Goals as goal

pub returns : goal.returns
returns c = (mark_masked _, rw (mark_masked c.args.both) (mark_fits c.args.both))
