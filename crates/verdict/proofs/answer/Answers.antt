-- What the judgement shows is printed.
use Rattle.verdict.proofs.Laws.Showing.{answers}
use Rattle.verdict.proofs.answer.Goals as goal

pub returns : goal.returns
returns c = search answers
