-- `any` says exactly whether some copy is one of z after y.
use Rattle.std.proofs.Common.{rules, tests}
use Rattle.code.specs.Laws.Chains.{exactly_any}
use Rattle.ban_copies.proofs.Laws.Scanning.{CopyIs, copy_any}
use Rattle.ban_copies.proofs.adding.has_copy.Goals as goal

pub returns : goal.returns
returns c =
    let a = c.args in
    let k = a.copies.now in
    copy_any k a.y a.z _ (exactly_any 0 k.number (CopyIs k a.y a.z) _ _ _ c.any.ensures.ran (λ x q k. search (rules, tests)) (λ x q k. search (rules, tests)))
