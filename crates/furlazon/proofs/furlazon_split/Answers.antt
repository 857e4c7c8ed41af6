-- An image or classes too short to be read are found first, then an answer too short to be told; then the operation answers, and its answer is written as numbers.
use Rattle.std.proofs.Common.{arith}
use Rattle.furlazon.proofs.Laws.Ways.{answer_short, answer_room, split_unread, split_unclassed, split_untold, split_told}
use Rattle.furlazon.proofs.furlazon_split.Goals as goal

pub returns-then-table-lt-LENGTH : goal.returns-then-table-lt-LENGTH
returns-then-table-lt-LENGTH c = split_unread c.if-table-lt-LENGTH.true c.number.ensures

pub returns-then-classes-lt-BYTES : goal.returns-then-classes-lt-BYTES
returns-then-classes-lt-BYTES c = split_unclassed c.if-classes-lt-BYTES.true c.number-then-classes-lt-BYTES.ensures

pub returns-then-is_short : goal.returns-then-is_short
returns-then-is_short c =
    split_untold c.if-table-lt-LENGTH.false c.if-classes-lt-BYTES.false c.unpack-value.ensures c.classes_in-letters.ensures
    (answer_short _ c.is_short.ensures c.if-is_short.true) c.untold_splitting.ensures

pub put_answer-requires : goal.put_answer-requires
put_answer-requires c =
    answer_room _ c.is_short.ensures c.if-is_short.false

pub returns : goal.returns
returns c =
    split_told c.if-table-lt-LENGTH.false c.if-classes-lt-BYTES.false c.unpack-value.ensures c.classes_in-letters.ensures
    (grind arith) (answer_room _ c.is_short.ensures c.if-is_short.false) c.split-e.ensures c.put_answer.ensures
