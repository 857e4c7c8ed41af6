-- An image too short to be read is found first, then an answer too short to be told; then the operation answers, and its answer is written as numbers.
use Rattle.furlazon.proofs.Laws.Ways.{answer_short, answer_room, read_unread, read_untold, read_answered}
use Rattle.furlazon.proofs.furlazon_read.Goals as goal

pub returns-then-table-lt-LENGTH : goal.returns-then-table-lt-LENGTH
returns-then-table-lt-LENGTH c = search read_unread

pub returns-then-is_short : goal.returns-then-is_short
returns-then-is_short c = search (read_untold, answer_short)

pub returns : goal.returns
returns c = search (read_answered, answer_room)

pub put_answer-requires : goal.put_answer-requires
put_answer-requires c = search answer_room
