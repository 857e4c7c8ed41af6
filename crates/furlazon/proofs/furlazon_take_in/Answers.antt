-- An accepted sheet gives a table that can be packed, and its answer decides.
use Rattle.furlazon.specs.Packs.{sheet_packs}
use Rattle.furlazon.proofs.Laws.Ways.{sheet_answered}
use Rattle.furlazon.proofs.furlazon_take_in.Goals as goal

pub put_table-requires : goal.put_table-requires
put_table-requires c = search sheet_packs

pub returns : goal.returns
returns c = search sheet_answered
