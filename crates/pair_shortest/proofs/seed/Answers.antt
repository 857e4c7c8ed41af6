-- `seed` stores the entry of the source, which is read back as such, and keeps the mark beside it.
use Rattle.pair_shortest.specs.Writing.{seeded, seeded_marks}
use Rattle.pair_shortest.proofs.seed.Goals as goal

pub returns : goal.returns
returns c = (search seeded, search seeded_marks)
