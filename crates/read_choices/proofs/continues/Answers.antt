-- `read_choices::continues` meets its contract: before the end by what the search found (`sought_continues`).
use native.Mathlib.Omega.{arith}
use Rattle.read_choices.specs.Choices.{sought_continues}
use Rattle.read_choices.proofs.continues.Goals as goal

pub returns : goal.returns
returns c = rw c.is_some.ensures (sought_continues c.seek.result (omega arith) c.seek.ensures)
