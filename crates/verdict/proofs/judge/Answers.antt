-- The sheet or the list is refused, or the verdict on what they give is shown.
use mathlib.Core.Path.{refl}
use native.Mathlib.Omega.{arith}
use Rattle.std.proofs.lemmas.Result.{err_from_is_err_and}
use Rattle.verdict.proofs.Laws.Showing.{shows_refused, shows_judged}
use Rattle.verdict.proofs.judge.Goals as goal

pub returns-in_err-given : goal.returns-in_err-given
returns-in_err-given c =
    let p = err_from_is_err_and c.from_residual.result c.from_residual.ensures.1 in
    rw (p.1, p.2) (shows_refused _ _ _ c.give-given.ensures c.in_err-given.was)

pub returns : goal.returns
returns c =
    shows_judged c.give-given.ensures c.in_ok-given.was c.requires.0 c.requires.1 c.requires.2
    refl (omega arith) (omega arith) (omega arith) c.verdict.ensures
