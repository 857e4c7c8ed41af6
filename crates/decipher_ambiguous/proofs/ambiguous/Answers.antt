-- `ambiguous` meets its contract: reading finds two readings, and their counts are the lengths of the first two (`finds_twice`).
use Rattle.decipher_ambiguous.specs.Twice.{finds_twice}
use Rattle.decipher_ambiguous.proofs.ambiguous.Goals as goal

pub returns : goal.returns
returns c = search finds_twice
