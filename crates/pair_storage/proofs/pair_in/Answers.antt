-- What a mask leaves of a link is the higher place, and of the link without it the lower one.
use Rattle.pair_storage.specs.Fields.{low_in, high_in}
use Rattle.pair_storage.proofs.Laws.Bounds.{masked}
use Rattle.pair_storage.proofs.pair_in.Goals as goal

pub returns : goal.returns
unfolding low_in high_in
returns c = rw c.link_in-link.ensures.0 record { first = masked _; second = masked _ }
