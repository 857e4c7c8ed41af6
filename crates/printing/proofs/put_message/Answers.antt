-- The word, the digits and CR LF.
use Rattle.printing.proofs.Laws.Results.{message_put}
use Rattle.printing.proofs.put_message.Goals as goal

pub returns : goal.returns
returns c = search message_put
