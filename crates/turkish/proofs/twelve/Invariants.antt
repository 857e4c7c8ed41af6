-- The loop fills words, rows and start marks from the front; what stays blank is what the definition has past the types.
use Rattle.turkish.specs.Types.{types}
use Rattle.turkish.proofs.Laws.Making.{Made}
use Rattle.turkish.proofs.twelve.Given as goal

abbrev pub invariant-loop-x : goal.invariant-loop-x
invariant-loop-x l = Made types l.code l.x
