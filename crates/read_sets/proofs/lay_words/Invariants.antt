-- `lay_words` meets its contract. The loop's invariant: the first `x` words are laid, and none of them is longer than `longest`.
use Rattle.read_sets.specs.Words.{LaidWords}
use Rattle.read_sets.proofs.lay_words.Given as goal

abbrev pub invariant-loop-x : goal.invariant-loop-x
invariant-loop-x l = LaidWords l.code l.x l.having l.ends l.lengths l.longest
