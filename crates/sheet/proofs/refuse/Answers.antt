-- The table is the blank one.
use Rattle.sheet.proofs.refuse.Goals as goal

pub returns : goal.returns
returns c = rw c.blank_code.ensures
