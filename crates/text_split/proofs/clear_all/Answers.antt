-- Each buffer is cleared by itself.
use Rattle.std.proofs.Common.{arith, drop_of_length-le}
use mathlib.Core.List.{append-nil}
use Rattle.text_split.proofs.clear_all.Goals as goal

pub returns : goal.returns
returns c =
    let message = c.fill.ensures.after (λ y z. z) in
    (grind (arith, drop_of_length-le, append-nil), c.fill-2.ensures.after (λ y z. z), c.fill-3.ensures.after (λ y z. z), c.fill-4.ensures.after (λ y z. z))
