-- The digits that `io` writes are the fewest, so they are `decimal`.
use Rattle.std.proofs.Common.{◌∙◌}
use Rattle.printing.proofs.Laws.Decimals.{fewest_digits}
use Rattle.printing.proofs.puts.put_decimal.Goals as goal

pub put-requires : goal.put-requires
put-requires c = let d = c.decimal-n.ensures in rw (d.digits ∙ fewest_digits _ _ d.len) c.requires

pub returns : goal.returns
returns c = let d = c.decimal-n.ensures in rw (d.digits ∙ fewest_digits _ _ d.len) at c.put.ensures
