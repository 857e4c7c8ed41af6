-- The loop adds the lengths of the words. The invariant: the symbols are those of the words so far, each within its limit.
use mathlib.Core.Path.{◌≡◌}
use Prim.Native.Nat.{◌*◌, ◌≤◌}
use Rattle.code.specs.Definitions.Lists.{tabulate, sum}
use Rattle.code.specs.Definitions.Sheets.{limits}
use Rattle.code.specs.Laws.WellFormed.{len_of}
use Rattle.ban_copies.proofs.adding.symbols_of.Given as goal

abbrev pub invariant-loop-word : goal.invariant-loop-word
invariant-loop-word l = (l.symbols ≡ sum (tabulate (len_of l.fn.code) l.word-index)) × (l.symbols ≤ limits.symbols * l.word-index)
