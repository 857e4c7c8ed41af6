-- The first four buffers by a return for each, then the working buffer (`short_work`).
use mathlib.Core.Logic.{inl, inr}
use Rattle.code.specs.Laws.Exactly.{exactly_true}
use Rattle.text_split.specs.Rooms.{short_work}
use Rattle.text_split.proofs.is_short.Goals as goal

pub returns-then-out-n : goal.returns-then-out-n
returns-then-out-n c = exactly_true (inl c.if-out-n.true)

pub returns-then-message-n : goal.returns-then-message-n
returns-then-message-n c = exactly_true (inr (inl c.if-message-n.true))

pub returns-then-first-n : goal.returns-then-first-n
returns-then-first-n c = exactly_true (inr (inr (inl c.if-first-n.true)))

pub returns-then-second-n : goal.returns-then-second-n
returns-then-second-n c = exactly_true (inr (inr (inr (inl c.if-second-n.true))))

pub returns : goal.returns
returns c = short_work c.if-out-n.false c.if-message-n.false c.if-first-n.false c.if-second-n.false
