use Rattle.pair_endings.specs.Closing.{sound_more, less_left, endings_done}
use Rattle.pair_endings.proofs.mark_endings.Goals as goal

pub loop-x-smaller : goal.loop-x-smaller
loop-x-smaller c = less_left c.loop-x.invariant c.in-Some.ensures.0 c.in-Some.ensures.1 c.requires.0.words

pub loop-x-preserved : goal.loop-x-preserved
loop-x-preserved c = sound_more c.loop-x.invariant c.in-Some.ensures.0 c.in-Some.ensures.1 c.requires.0.words

pub returns : goal.returns
returns c = endings_done c.loop-x.invariant c.in_default.ensures
