use borrow.Author.Rules.{rules}
use mathlib.Core.Path.{ap}
use mathlib.Core.List.{List}
use Prim.Native.Nat.{ℕ}
use Rattle.code.specs.declared.Row.{Row}
use Rattle.code.specs.Definitions.Sheets.{limits}
use Rattle.renumbering.specs.Reordering.{filled_none, rows_more, rows_all}
use Rattle.renumbering.proofs.reorder_rows.Goals as goal

pub loop-i-init : goal.loop-i-init
loop-i-init c = filled_none _ _ _

pub loop-i-preserved : goal.loop-i-preserved
loop-i-preserved c =
    let row : List ℕ → Row = λ entries. record { entries = entries } in
    rows_more limits _ _ _ c.requires.0 (search rules) c.loop-i.invariant (search rules) _ (ap row (c.reorder_entries.ensures 0))

pub returns : goal.returns
returns c = rows_all limits _ _ _ c.requires.0 (search rules) c.loop-i.invariant c.requires.1 (search rules)
