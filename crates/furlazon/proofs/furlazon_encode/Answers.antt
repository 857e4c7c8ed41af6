-- An image too short to be read is found first, then an answer too short to be told; then the operation answers, and its answer is written as numbers.
use Rattle.std.proofs.Common.{arith}
use Rattle.furlazon.proofs.Laws.Ways.{answer_short, answer_room, encode_unread, encode_untold, encode_told}
use Rattle.furlazon.proofs.furlazon_encode.Goals as goal

pub returns-then-table-lt-LENGTH : goal.returns-then-table-lt-LENGTH
returns-then-table-lt-LENGTH c = search encode_unread

pub returns-then-is_short : goal.returns-then-is_short
returns-then-is_short c = search (encode_untold, answer_short)

pub returns : goal.returns
returns c =
    encode_told (grind arith) (omega (arith, c.if-table-lt-LENGTH.false)) (answer_room _ c.is_short.ensures c.if-is_short.false) c.unpack-value.ensures c.encode-e.ensures c.put_answer.ensures

pub put_answer-requires : goal.put_answer-requires
put_answer-requires c = search answer_room
