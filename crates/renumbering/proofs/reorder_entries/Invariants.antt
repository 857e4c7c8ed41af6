-- The loop puts the entries in order from the front; what stays is what the definition has past the words.
use Rattle.renumbering.specs.Reordering.{Filled, entry_from}
use Rattle.renumbering.proofs.reorder_entries.Given as goal

abbrev pub invariant-loop-i : goal.invariant-loop-i
invariant-loop-i g l = (none : g.row.T.Denot) → Filled (entry_from l.old l.n none l.entries) l.n l.entries l.next l.i
