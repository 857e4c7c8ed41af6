-- `foretell` meets its contract: the searches get a part of the working buffer, and with a delay the first symbols are marked in as much of it as they need.
use mathlib.Core.Path.{◌≡◌, sym}
use native.Mathlib.Omega.{arith}
use lib.ListN.{length, take}
use lib.Seq.{length-take-le}
use Rattle.std.proofs.lemmas.Result.{err_from_is_err_and}
use Rattle.code.specs.declared.Refusal.TheVariants.{NoFiniteDelay}
use Rattle.pair_storage.specs.Rooms.{room_most}
use Rattle.decipher_bound.proofs.Laws.Lent.{part_room, lent_back}
use Rattle.next_word.proofs.Laws.Ways.{bound_delay, bound_room, way_21}
use Rattle.next_word.proofs.foretell.Goals as goal

pub slice_bounds-find_delay-end-2 : goal.slice_bounds-find_delay-end-2
slice_bounds-find_delay-end-2 c = let l = c.lay_out-places.ensures.0 in omega (arith, room_most l.laid)

pub slice_bounds-find_delay-end-3 : goal.slice_bounds-find_delay-end-3
slice_bounds-find_delay-end-3 c = let l = c.lay_out-places.ensures.0 in sym (length-take-le _ _ (omega (arith, room_most l.laid)))

pub find_delay-found-requires : goal.find_delay-found-requires
find_delay-found-requires c =
    let l = c.lay_out-places.ensures.0 in
    (l.laid, l.numbered, part_room _ c.args.work.now c.room-room.ensures (omega (arith, room_most l.laid)))

pub name-requires : goal.name-requires
name-requires c =
    let l = c.lay_out-places.ensures in
    let fits = room_most l.0.laid in
    let kept : length c.find_delay-found.new.work ≡ length (take c.room-room.result c.args.work.now) = omega arith in
    let back = lent_back c.args.work.now c.find_delay-found.new.work c.room-room.result (omega arith) kept in
    let room = bound_room c.requires.0 l.0 l.1 c.find_delay-found.ensures (rw c.in_ok-delay.was at c.ok_or.ensures.ok_part) c.requires.1 in
    (c.requires.0, bound_delay c.requires.0 l.0 l.1 c.find_delay-found.ensures (rw c.in_ok-delay.was at c.ok_or.ensures.ok_part), omega arith)

pub returns-in_err-delay : goal.returns-in_err-delay
returns-in_err-delay c =
    let l = c.lay_out-places.ensures in
    let p = err_from_is_err_and c.from_residual.result c.from_residual.ensures.1 in
    let none = rw c.in_err-delay.was at c.ok_or.ensures.ok_part in
    let told = rw none at c.ok_or.ensures.value in
    let same : c.in_err-delay.field-0.0 ≡ NoFiniteDelay = cc (c.in_err-delay.was, told) in
    rw (p.1, p.2, same) (way_21 c.requires.0 l.0 l.1 c.find_delay-found.ensures none)
