-- The record of the message, then one for each reading.
use Rattle.printing.proofs.Laws.Results.{first_room, second_room, ambiguous_put}
use Rattle.printing.proofs.put_ambiguous.Goals as goal

pub put_reading-next-requires : goal.put_reading-next-requires
put_reading-next-requires c = search first_room

pub put_reading-requires : goal.put_reading-requires
put_reading-requires c = search second_room

pub returns : goal.returns
returns c = search ambiguous_put
