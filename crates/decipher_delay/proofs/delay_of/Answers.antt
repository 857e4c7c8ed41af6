-- `delay_of` meets its contract: the test decides the case of its definition.
use Rattle.decipher_delay.proofs.delay_of.Goals as goal

pub returns-then-rivals : goal.returns-then-rivals
returns-then-rivals c = rw c.if-rivals.true

pub returns : goal.returns
returns c = rw c.if-rivals.false
