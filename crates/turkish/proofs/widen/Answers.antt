-- The entries, and zeros behind them.
use Rattle.code.specs.Definitions.Sheets.{limits}
use Rattle.turkish.proofs.Laws.Padding.{padding_front}
use Rattle.turkish.proofs.widen.Goals as goal

pub returns : goal.returns
returns c = let e = padding_front 0 c.args.entries.now limits.words c.requires in rw c.copy_from_slice.ensures.after (rw (← e))
