-- `find_named` meets its contract: without copies what is found has its own names (`own_found`).
use Rattle.reading.specs.Named.{own_found}
use Rattle.reading.proofs.named.find_named.Goals as goal

pub returns-then-e-code : goal.returns-then-e-code
returns-then-e-code c =
    own_found c.requires.0 c.if-e-code.true c.find_readings.ensures
