-- `lay_word` meets its contract. The loop's invariant: the word is in the sets of its first `j` symbols.
use Rattle.read_sets.specs.Words.{Spread}
use Rattle.read_sets.proofs.lay_word.Given as goal

abbrev pub invariant-loop-j : goal.invariant-loop-j
invariant-loop-j l = Spread l.w l.x l.j l.initial.having l.having
