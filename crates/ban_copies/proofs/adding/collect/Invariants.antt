-- The loop goes from ban to ban. The invariant: the arrays hold the copies of the bans passed, within the limits.
use Rattle.code.specs.Definitions.Bans.{copies_of}
use Rattle.ban_theory.specs.Triples.{bans_from}
use Rattle.ban_copies.specs.Adding.{Collected}
use Rattle.ban_copies.proofs.adding.collect.Given as goal

abbrev pub invariant-loop-i : goal.invariant-loop-i
invariant-loop-i l = Collected l.code (copies_of (bans_from l.numbers l.i)) l.copies
