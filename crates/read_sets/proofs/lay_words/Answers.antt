use Prim.Native.Nat.{◌<◌}
use native.Mathlib.Omega.{arith}
use Rattle.code.specs.Definitions.Sheets.{limits}
use Rattle.read_sets.specs.Words.{words_none, words_more}
use Rattle.read_sets.proofs.lay_words.Goals as goal

pub loop-x-init : goal.loop-x-init
loop-x-init c = words_none c.args.code c.requires.1 c.requires.2 c.requires.3

pub loop-x-preserved : goal.loop-x-preserved
loop-x-preserved c =
    let l = c.loop-x in
    let inside : l.x < limits.words = omega (arith, c.requires.0.most) in
    let w = c.requires.0.word l.x inside in
    rw c.put.ensures
    (words_more l.invariant w c.loop-x-test.true inside c.lay_word.ensures
    (omega arith) (omega arith) (omega (arith, w.short, l.invariant.short)))
