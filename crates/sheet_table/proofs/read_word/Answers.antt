use mathlib.Core.Path.{refl, ap, ◌∙◌}
use native.Mathlib.Omega.{arith}
use lib.ListN.{length, drop, replicate, length-set}
use Rattle.code.specs.declared.Word.{Word}
use Rattle.code.specs.Definitions.Lists.{tabulate}
use Rattle.code.specs.Laws.Filling.{fill_next}
use Rattle.csv_records.specs.Fields.{leading}
use Rattle.csv_records.specs.Symbols.{field_symbol, leading_digit, leading_symbol}
use Rattle.sheet_table.specs.Building.{word_read}
use Rattle.sheet_table.proofs.read_word.Goals as goal

pub loop-k-init : goal.loop-k-init
unfolding tabulate
loop-k-init c = let e = ap (λ (w : Word). w.symbols) c.blank_word-word.ensures in (ap length e, e, refl)

pub value_of-requires : goal.value_of-requires
value_of-requires c = let l = c.loop-k in let a = c.args in let p = c.requires in
    leading_digit a.s.now a.at l.k (omega (arith, p.0))

pub loop-k-preserved : goal.loop-k-preserved
loop-k-preserved c = let l = c.loop-k in let a = c.args in let p = c.requires in
    let f = leading (drop a.at a.s.now) in
    let v = c.value_of.ensures ∙ leading_symbol a.s.now a.at l.k (omega (arith, p.0)) in
    (simp length-set l.invariant.0, rw (l.invariant.1, v) (fill_next (field_symbol f) (replicate 16 0) l.k (omega (arith, p.0, p.2))), l.invariant.2)

pub returns : goal.returns
returns c = let l = c.loop-k in let a = c.args in let p = c.requires in
    word_read l.word (leading (drop a.at a.s.now)) l.k l.invariant.1 (omega (arith, p.0, l.invariant.2)) (omega (arith, p.0)) (omega (arith, p.0, p.2))
