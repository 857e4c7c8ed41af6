-- The run at this place is laid and read, and the record says what was found (`recorded`).
use lib.Seq.{length-take-le}
use mathlib.Core.Path.{sym}
use native.Mathlib.Omega.{arith}
use Rattle.text_words.specs.Records.{part_length, run_rooms, core_rooms, recorded}
use Rattle.text_words.proofs.word_at.Goals as goal

pub lay_run-length-requires : goal.lay_run-length-requires
lay_run-length-requires c =
    omega (arith, part_length c.args.text.now c.args.at, c.requires.2.message)

pub slice_bounds-read_core-end-2 : goal.slice_bounds-read_core-end-2
slice_bounds-read_core-end-2 c =
    sym (length-take-le _ _ (run_rooms c.args.text.now c.args.at c.requires.2 c.lay_run-length.ensures).message)

pub slice_bounds-read_core-end-4 : goal.slice_bounds-read_core-end-4
slice_bounds-read_core-end-4 c =
    sym (length-take-le _ _ (run_rooms c.args.text.now c.args.at c.requires.2 c.lay_run-length.ensures).work)

pub read_core-found-requires : goal.read_core-found-requires
read_core-found-requires c =
    let room = core_rooms (run_rooms c.args.text.now c.args.at c.requires.2 c.lay_run-length.ensures) in
    (c.requires.0.lays.sets, room.0, room.1, room.2, room.3)

pub returns : goal.returns
returns c =
    recorded _ _ _ _ _ _ c.lay_run-length.ensures c.read_core-found.ensures c.kind_of-kind.ensures
