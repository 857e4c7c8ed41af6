-- `read_walks::second_reading` meets its contract: the words stand in order by `second_written`.
use native.Mathlib.Omega.{arith}
use Rattle.read_walks.specs.Steps.{begins_taken}
use Rattle.read_walks.specs.Answers.{second_written}
use Rattle.read_walks.proofs.second_reading.Goals as goal

pub overflow_add-after : goal.overflow_add-after
overflow_add-after c =
    let p = c.requires in
    omega (arith, (begins_taken p.0 p.1.known p.1.begins).near)

pub least_reading-v-requires : goal.least_reading-v-requires
least_reading-v-requires c =
    let p = c.requires in
    let t = begins_taken p.0 p.1.known p.1.begins in
    (p.0, p.1.begins.after, omega (arith, p.1.early, t.some), omega (arith, p.1.early, t.inside), omega arith, omega arith)

pub overflow_add-result-2 : goal.overflow_add-result-2
overflow_add-result-2 c =
    let p = c.requires in
    let e = c.least_reading-v.ensures in
    omega (arith, e.room, p.0.near)

pub returns : goal.returns
returns c =
    let a = c.args in
    second_written a.first.now a.second.now a.branch c.requires.2 (rw c.copy_branch.ensures at c.least_reading-v.ensures)
