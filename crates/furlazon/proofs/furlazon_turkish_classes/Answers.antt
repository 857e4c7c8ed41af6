-- The built-in table is given.
use Rattle.furlazon.proofs.Laws.Ways.{letters_answered}
use Rattle.furlazon.proofs.furlazon_turkish_classes.Goals as goal

pub returns : goal.returns
returns c = search letters_answered
