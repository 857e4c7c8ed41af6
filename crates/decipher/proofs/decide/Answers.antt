-- `decide` meets its contract: the searches are lent a part of the clear working buffer (`searchable`), and as they leave it clear the whole is (`decided_whole`).
use native.Mathlib.Omega.{arith}
use Rattle.pair_storage.specs.Rooms.{room_most}
use Rattle.decipher.specs.Lent.{room_within, part_long, searchable}
use Rattle.decipher.specs.Decided.{decided_whole}
use Rattle.decipher.proofs.decide.Goals as goal

pub slice_bounds-search-end-2 : goal.slice_bounds-search-end-2
slice_bounds-search-end-2 c =
    let l = c.lay_out-places.ensures.0 in
    omega (arith, room_most l.laid)

pub slice_bounds-search-end-3 : goal.slice_bounds-search-end-3
slice_bounds-search-end-3 c = search (part_long, room_within)

pub search-requires : goal.search-requires
search-requires c = search searchable

pub returns : goal.returns
returns c = search (decided_whole, room_within)
