-- `find_readings` meets its contract: the lists that are made zero become the code's sets, and the working buffer is zero in two parts (`Parts`).
use Prim.Native.Nat.{◌+◌}
use lib.ListN.{length}
use mathlib.Core.Path.{refl, sym}
use native.Mathlib.Omega.{arith}
use Rattle.code.specs.Definitions.Tables.{table_of}
use Rattle.read_core.proofs.Laws.Parts.{used_length, all_zero}
use Rattle.read_core.proofs.find_readings.Goals as goal

pub lay-longest-requires : goal.lay-longest-requires
lay-longest-requires c =
    (c.requires.0, refl, refl, refl, omega arith)

pub slice_bounds-read_core-end-6 : goal.slice_bounds-read_core-end-6
slice_bounds-read_core-end-6 c =
    sym (used_length c.args.work.now _ c.fill.new.self (omega arith) (c.fill.ensures.after (λ y z. z)))

pub read_core-requires : goal.read_core-requires
read_core-requires c =
    let p = c.requires in
    let n = length c.args.message.now + 1 in
    let used = used_length c.args.work.now n c.fill.new.self (omega arith) (c.fill.ensures.after (λ y z. z)) in
    (c.lay-longest.ensures.sets, used, p.1, p.2, p.3)

pub returns : goal.returns
returns c =
    let r = c.read_core.ensures in
    record {
      finds = r.finds (table_of c.args.code) c.lay-longest.ensures;
      work = all_zero c.args.work.now _ c.fill.new.self (omega arith) (c.fill.ensures.after (λ y z. z)) _ r.work;
    }
