-- Parts of the files and of the input are answered, and a full buffer is refused.
use Rattle.syllabify.proofs.Laws.Ways.{input_answered}
use Rattle.syllabify.proofs.answer_input.Goals as goal

pub returns : goal.returns
returns c = search input_answered
