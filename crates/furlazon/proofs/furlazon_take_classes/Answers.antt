-- The answer to the class sheet decides.
use Rattle.furlazon.proofs.Laws.Ways.{classes_answered}
use Rattle.furlazon.proofs.furlazon_take_classes.Goals as goal

pub returns : goal.returns
returns c = search classes_answered
