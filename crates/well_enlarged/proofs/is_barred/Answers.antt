use Rattle.std.proofs.Common.{sym, ◌<◌, arith}
use Rattle.code.specs.Definitions.Sheets.{limits}
use Rattle.well_enlarged.proofs.Laws.Tested.{next_low, barred_entry}
use Rattle.well_enlarged.proofs.is_barred.Goals as goal
use Rattle.well_enlarged.proofs.is_barred.Goals.{After-number_in-next}

-- the number that is found has a row
row_low : (c : After-number_in-next) → c.number_in-next.result < limits.words
row_low c = next_low c.requires.0 _ c.args.w c.number_in-next.ensures c.requires.2

pub offset_bounds-e-next : goal.offset_bounds-e-next
offset_bounds-e-next c = omega (arith, row_low c)

pub bounds-e-next : goal.bounds-e-next
bounds-e-next c = row_low c

pub returns : goal.returns
returns c = sym (barred_entry c.args.e.now c.args.x c.args.w c.from.ensures c.number_in-next.ensures c.is_one.ensures)
