-- The bytes answered lie within the output buffer.
use Rattle.verdict.proofs.Laws.Showing.{answer_counts}
use Rattle.verdict.proofs.main.Goals as goal

pub slice_bounds-out-end : goal.slice_bounds-out-end
slice_bounds-out-end c = (answer_counts c.answer_input-length.ensures.answers).0
