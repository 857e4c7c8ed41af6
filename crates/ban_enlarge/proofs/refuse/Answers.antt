-- A refused list gives the blank table.
use Rattle.ban_enlarge.proofs.refuse.Goals as goal

pub returns : goal.returns
returns c = rw c.blank_enlarged-blank.ensures
