-- The digits of the number are a field like any other.
use Rattle.std.proofs.Common.{◌∙◌}
use Rattle.printing.proofs.Laws.Decimals.{fewest_digits}
use Rattle.printing.proofs.puts.put_number.Goals as goal

pub put_field-requires : goal.put_field-requires
put_field-requires c = let d = c.decimal-n.ensures in rw (d.digits ∙ fewest_digits _ _ d.len, c.from.ensures) c.requires

pub returns : goal.returns
returns c = let d = c.decimal-n.ensures in rw (d.digits ∙ fewest_digits _ _ d.len, c.from.ensures) at c.put_field.ensures
