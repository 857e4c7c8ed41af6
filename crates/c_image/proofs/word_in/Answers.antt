-- What is copied is the bytes from `at` on, one by one.
use native.Mathlib.Omega.{arith}
use Rattle.std.proofs.lemmas.Grind.{common_steps}
use Rattle.code.specs.Laws.Lists.{tabulate_list}
use Rattle.c_image.specs.Image.{byte_from}
use Rattle.c_image.proofs.word_in.Goals as goal

pub returns : goal.returns
returns c =
    let a = c.args in
    let whole = tabulate_list (byte_from a.table.now a.at) 16 c.copy_from_slice.new.self 0 (omega arith) (λ k h. grind (arith, common_steps)) in
    rw whole (cc)
