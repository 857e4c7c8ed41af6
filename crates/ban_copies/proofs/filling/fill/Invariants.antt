-- The loop writes a word and a row for each word and each copy.
use Rattle.ban_theory.specs.Triples.{bans_from}
use Rattle.ban_copies.proofs.Laws.Filling.{Filled}
use Rattle.ban_copies.proofs.filling.fill.Given as goal

abbrev pub invariant-loop-x : goal.invariant-loop-x
invariant-loop-x l = Filled l.code (bans_from l.numbers l.bans) l.filled l.x
