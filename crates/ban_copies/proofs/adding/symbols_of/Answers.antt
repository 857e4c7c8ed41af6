use mathlib.Core.Path.{◌≡◌, refl, sym}
use native.Mathlib.Omega.{arith}
use Rattle.code.specs.Definitions.Lists.{tabulate, sum}
use Rattle.code.specs.Definitions.Sheets.{limits}
use Rattle.code.specs.Laws.Lists.{sum_more}
use Rattle.code.specs.Laws.WellFormed.{len_of}
use borrow.Author.Rules.{rules}
use Rattle.ban_copies.proofs.adding.symbols_of.Goals as goal

pub loop-word-init : goal.loop-word-init
unfolding tabulate sum
loop-word-init c = (refl, search rules)

pub overflow_add-symbols : goal.overflow_add-symbols
overflow_add-symbols c =
    let l = c.loop-word in
    let short = (c.requires.word l.word-index (omega arith)).short in
    omega arith

pub loop-word-preserved : goal.loop-word-preserved
loop-word-preserved c =
    let l = c.loop-word in
    let short = (c.requires.word l.word-index (omega arith)).short in
    (rw l.invariant.0 (sym (sum_more (len_of c.args.code) l.word-index)), omega arith)

pub returns : goal.returns
returns c = let l = c.loop-word in let end : l.word-index ≡ limits.words = omega arith in rw (← end) l.invariant.0
