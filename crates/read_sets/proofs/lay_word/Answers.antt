use Prim.Native.Nat.{◌+◌}
use lib.ListN.{get_or}
use native.Mathlib.Omega.{arith}
use Rattle.read_sets.specs.Sets.{block_symbol}
use Rattle.read_sets.specs.Words.{spread_more}
use Rattle.read_sets.proofs.lay_word.Goals as goal

pub loop-j-preserved : goal.loop-j-preserved
loop-j-preserved c =
    let l = c.loop-j in
    let block = block_symbol (get_or c.args.w.symbols l.j 0) (c.requires.2.below l.j) in
    let e = c.block_of-block.ensures in
    rw c.put.ensures (spread_more (c.block_of-block.result + l.j) (rw e) (omega (arith, l.invariant.long)) l.invariant)
