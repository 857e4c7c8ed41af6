-- `measure` meets its contract: the walk is as long as `delay_of` asks (`extent_low`), and each answer of the search gives its verdict.
use Rattle.decipher_delay.specs.Delays.{given_laid, extent_low, by_finite, by_unbounded}
use Rattle.decipher_delay.proofs.measure.Goals as goal

pub returns-in_err-longest : goal.returns-in_err-longest
returns-in_err-longest c = rw c.from_residual.ensures (search (by_unbounded, c.in_err-longest.was))

pub some_rivals-requires : goal.some_rivals-requires
some_rivals-requires c = search given_laid

pub delay_of-requires : goal.delay_of-requires
delay_of-requires c = search (extent_low, c.in_ok-longest.was)

pub returns : goal.returns
returns c = search (by_finite, c.in_ok-longest.was)
