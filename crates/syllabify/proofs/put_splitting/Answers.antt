-- An output stays, and a refusal is put.
use Rattle.std.specs.Prelude.{refl}
use Rattle.syllabify.specs.Answers.{stays, put}
use Rattle.syllabify.proofs.put_splitting.Goals as goal

pub returns-in-Ok : goal.returns-in-Ok
returns-in-Ok c = rw c.in-Ok.is (stays refl refl)

pub returns-in-Err : goal.returns-in-Err
returns-in-Err c = rw c.in-Err.is (put c.put_refused.ensures)
