use borrow.Author.Rules.{rules}
use mathlib.Core.Path.{ap, ◌∙◌}
use native.Mathlib.Omega.{arith}
use lib.ListN.{length, replicate, length-set}
use Rattle.code.specs.declared.Row.{Row}
use Rattle.code.specs.Definitions.Lists.{tabulate}
use Rattle.code.specs.Laws.Filling.{fill_next}
use Rattle.sheet_table.specs.Building.{row_byte, row_symbol, row_filled}
use Rattle.sheet_table.proofs.read_row.Goals as goal

pub loop-y-init : goal.loop-y-init
unfolding tabulate
loop-y-init c = let e = ap (λ (r : Row). r.entries) c.blank_row-row.ensures in (ap length e, e)

pub loop-y-preserved : goal.loop-y-preserved
loop-y-preserved c = let l = c.loop-y in let a = c.args in let p = c.requires in
    let v = c.value_of.ensures ∙ row_symbol a.s.now a.at a.n l.y (search rules) p.within in
    (simp length-set l.invariant.0, rw (l.invariant.1, v) (fill_next (row_byte a.s.now a.at a.n) (replicate 32 0) l.y (omega (arith, p.few))))

pub returns : goal.returns
returns c = let l = c.loop-y in let a = c.args in let p = c.requires in
    row_filled l.row a.s.now a.at a.n l.y l.invariant.1 (search rules) (omega (arith, p.few))
