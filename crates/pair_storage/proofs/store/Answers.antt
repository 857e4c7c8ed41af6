-- The two stores are of one pair: its mark is set, and its two places stand in the entry.
use native.Mathlib.Omega.{arith}
use Rattle.pair_storage.specs.Stores.{entry_stored, stored}
use Rattle.pair_storage.proofs.store.Goals as goal

pub returns : goal.returns
returns c =
    let p = c.args.pair in
    stored p c.set_mark.ensures (entry_stored p c.requires.0.laid (let l = c.requires.0.low in omega arith) c.requires.0.high c.set_entry.ensures)
