-- Parts of the input and of the file are answered, and a full buffer is refused.
use Rattle.verdict.proofs.Laws.Inputs.{input_answered}
use Rattle.verdict.proofs.answer_input.Goals as goal

pub returns : goal.returns
returns c = search input_answered
