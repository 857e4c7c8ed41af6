-- The code of the twelve types is one that an accepted sheet gives, so it can be packed.
use Rattle.furlazon.specs.Packs.{turkish_packs}
use Rattle.furlazon.proofs.Laws.Ways.{turkish_answered}
use Rattle.furlazon.proofs.furlazon_turkish.Goals as goal

pub put_table-requires : goal.put_table-requires
put_table-requires c = search turkish_packs

pub returns : goal.returns
returns c = search turkish_answered
