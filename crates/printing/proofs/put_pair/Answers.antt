-- The word, the number and CR LF.
use Rattle.printing.proofs.Laws.Results.{number_room, end_room, pair_put}
use Rattle.printing.proofs.put_pair.Goals as goal

pub put_decimal-end-requires : goal.put_decimal-end-requires
put_decimal-end-requires c = search number_room

pub put-requires : goal.put-requires
put-requires c = search end_room

pub returns : goal.returns
returns c = search pair_put
