-- The word, the refusal's number and CR LF.
use Rattle.code.specs.Definitions.Lists.{join}
use Rattle.printing.proofs.put_refused.Goals as goal

pub returns : goal.returns
unfolding join
returns c = rw (← c.number.ensures) c.put_pair.ensures
