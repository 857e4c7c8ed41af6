-- `sooner` passes over no symbol that leads the pair on: any symbol may lead on a pair that turns, and only the next symbol of its inner place one that does not.
use Rattle.pair_slots.specs.Leaves.{low_known}
use Rattle.pair_groups.specs.Symbols.{straight_none, not_led_above, not_led_below}
use native.Mathlib.Omega.{arith}
use borrow.Author.Rules.{rules}
use Rattle.pair_groups.proofs.sooner.Goals as goal

pub inner-place-requires : goal.inner-place-requires
inner-place-requires c =
    let z = straight_none _ _ _ c.turning.ensures c.is_some.ensures c.if-is_some.false in
    (search rules, low_known c.requires.0 _ _ z, search rules)

pub returns-then-next-symbol : goal.returns-then-next-symbol
returns-then-next-symbol c = (search (not_led_below, straight_none), search rules)

pub returns : goal.returns
returns c =
    let z = straight_none _ _ _ c.turning.ensures c.is_some.ensures c.if-is_some.false in
    (not_led_above c.requires.0 c.args.pair z c.requires.1 c.inner-place.ensures.0 (omega arith) (omega arith), omega arith)
