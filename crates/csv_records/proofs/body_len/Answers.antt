use native.Mathlib.Omega.{arith}
use Prim.Native.Nat.{◌-◌}
use lib.ListN.{length}
use lib.Seq.{length-take-le}
use Rattle.csv_records.specs.Fields.{body_cut}
use Rattle.csv_records.proofs.body_len.Goals as goal

pub returns-in-13 : goal.returns-in-13
returns-in-13 c = (body_cut _ (omega arith) (omega arith) (omega arith), let n = length-take-le (length c.args.s.now - 2) c.args.s.now (omega arith) in omega arith)
