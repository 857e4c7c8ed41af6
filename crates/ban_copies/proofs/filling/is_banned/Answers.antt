-- `any` says exactly whether some ban is on x after y then z.
use Rattle.std.proofs.Common.{rules, tests}
use Rattle.code.specs.Laws.Chains.{exactly_any}
use Rattle.ban_copies.proofs.Laws.Scanning.{BanIs, ban_any}
use Rattle.ban_copies.proofs.filling.is_banned.Goals as goal

pub returns : goal.returns
returns c =
    let a = c.args in
    ban_any a.numbers.now a.bans a.x a.y a.z _
    (exactly_any 0 a.bans (BanIs a.numbers.now a.x a.y a.z) _ _ _ c.any.ensures.ran (λ x q k. search (rules, tests)) (λ x q k. search (rules, tests)))
