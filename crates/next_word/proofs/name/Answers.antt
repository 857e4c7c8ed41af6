-- `name` meets its contract: 12, 14 for the empty message, 14 for a message that tells no word, or the word that it tells.
use Rattle.next_word.proofs.Laws.Ways.{way_12, way_empty, way_last}
use Rattle.next_word.proofs.name.Goals as goal

pub returns-then-high_soon : goal.returns-then-high_soon
returns-then-high_soon c = way_12 c.requires.0 c.args.message.now c.requires.1 c.high_soon.ensures c.if-high_soon.true

pub returns-then-message-eq0 : goal.returns-then-message-eq0
returns-then-message-eq0 c =
    way_empty c.requires.0 c.args.message.now c.requires.1 c.high_soon.ensures c.if-high_soon.false c.if-message-eq0.true

pub returns : goal.returns
returns c =
    rw c.ok_or.ensures.value
    (way_last c.requires.0 c.args.message.now c.requires.1 c.high_soon.ensures c.if-high_soon.false c.if-message-eq0.false _ c.tell.ensures)
