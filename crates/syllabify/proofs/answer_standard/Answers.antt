-- The bytes answered lie within the output buffer.
use Rattle.syllabify.proofs.Laws.Ways.{answer_counts}
use Rattle.syllabify.proofs.answer_standard.Goals as goal

pub slice_bounds-out-end : goal.slice_bounds-out-end
slice_bounds-out-end c = (answer_counts c.answer_input-length.ensures.answers).0
