-- `key` is the key of an entry: what `above_at` and `pair_at` take out, and the symbol of the higher place, which is a byte.
use borrow.Author.Rules.{rules}
use native.Mathlib.Omega.{arith}
use Rattle.pair_slots.specs.Leaves.{high_carried, is_key}
use Rattle.pair_slots.proofs.key.Goals as goal

pub symbol-requires : goal.symbol-requires
symbol-requires c = (search rules, search high_carried)

pub overflow_add-result : goal.overflow_add-result
overflow_add-result c = omega (arith, c.symbol.ensures, c.type_inv.places c.pair_at-pair.result.high)

pub returns : goal.returns
returns c =
    let p = c.pair_at-pair.ensures in
    let k = is_key c.args.work.now c.requires.0 c.args.i c.requires.2 p c.above_at.ensures.0 c.symbol.ensures in
    omega arith
