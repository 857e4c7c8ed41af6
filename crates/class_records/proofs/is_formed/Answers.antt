-- The six tests in turn, by the branches that were gone through.
use native.Mathlib.Omega.{arith}
use Rattle.std.proofs.lemmas.Grind.{common_steps}
use Rattle.class_records.proofs.Laws.Forms.{formed_tests}
use Rattle.class_records.proofs.is_formed.Goals as goal

pub returns-then-has_digits-3 : goal.returns-then-has_digits-3
returns-then-has_digits-3 c = formed_tests _ _ c.requires.0 _ (grind (arith, common_steps))

pub returns-else-has_digits-3 : goal.returns-else-has_digits-3
returns-else-has_digits-3 c = formed_tests _ _ c.requires.0 _ (grind (arith, common_steps))
