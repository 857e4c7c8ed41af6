-- `next_symbol` goes through the members. The invariant: no symbol from `symbol` to `least` - 1 leads on a member before `member`.
use Prim.Native.Nat.{◌≤◌}
use Rattle.pair_storage.specs.Entries.{entries_in}
use Rattle.pair_groups.specs.Symbols.{NoneLed}
use Rattle.pair_groups.proofs.next_symbol.Given as goal

abbrev pub invariant-loop-member : goal.invariant-loop-member
invariant-loop-member l = NoneLed l.places (entries_in l.places l.work) l.fn.group.start l.member l.symbol l.least × (l.least ≤ 16)
