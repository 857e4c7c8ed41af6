use native.Mathlib.Omega.{arith}
use Rattle.ban_theory.specs.Triples.{known_ban}
use Rattle.ban_copies.specs.Adding.{collected_none, collected_more, gathered_passed}
use borrow.Author.Rules.{rules}
use Rattle.ban_copies.proofs.adding.collect.Goals as goal

pub loop-i-init : goal.loop-i-init
loop-i-init c = collected_none c.args.numbers.now c.requires.0 (rw c.symbols_of.ensures at c.no_copies-copies.ensures)

pub bounds-code-from : goal.bounds-code-from
bounds-code-from c =
    let z = (known_ban _ _ c.requires.2 c.loop-i.i (search rules)).z in
    omega (arith, c.requires.0.most, c.from.ensures)

pub add_copy-requires : goal.add_copy-requires
add_copy-requires c =
    let l = c.loop-i in
    let well = c.requires.0 in
    let z = (known_ban _ _ c.requires.2 l.i (search rules)).z in
    let short = (well.word c.from.result (omega (arith, well.most, c.from.ensures))).short in
    let held = l.invariant.arrays in
    (omega (arith, held.originals, held.number, held.most), l.invariant.few, short)

pub returns-in_err-copies : goal.returns-in_err-copies
returns-in_err-copies c =
    let l = c.loop-i in
    let added = rw (c.from.ensures, c.in_err-copies.was) at c.add_copy.ensures in
    rw c.from_residual.ensures (gathered_passed c.args.numbers.now l.i c.args.bans (search rules) l.invariant added)

pub loop-i-preserved : goal.loop-i-preserved
loop-i-preserved c =
    let l = c.loop-i in
    let known = known_ban _ _ c.requires.2 l.i (search rules) in
    let added = rw (c.from.ensures, c.in_ok-copies.was) at c.add_copy.ensures in
    collected_more c.args.numbers.now l.i l.invariant known added
