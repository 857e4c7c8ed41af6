-- `decipherable` meets its contract: the delay, or that there is none, is told as a verdict, and the list is cleared.
use Rattle.decipher_delay.specs.Delays.{measured}
use Rattle.decipher_delay.proofs.decipherable.Goals as goal

pub returns-in-Some : goal.returns-in-Some
returns-in-Some c = search (measured, c.in-Some.ensures, c.fill.ensures.after (λ y e. e))

pub returns-in-None : goal.returns-in-None
returns-in-None c = search (measured, c.in-None.ensures, c.fill.ensures.after (λ y e. e))
