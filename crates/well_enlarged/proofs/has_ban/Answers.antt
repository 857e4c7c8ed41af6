-- `any` says exactly whether some word may not come behind the copy.
use Rattle.std.proofs.Common.{◌≡◌, true, ℕ, arith, rules, tests}
use Rattle.code.specs.Laws.Chains.{exactly_any}
use Rattle.code.specs.Laws.Exactly.{exactly_iff}
use Rattle.well_enlarged.specs.WellEnlarged.{barred}
use Rattle.well_enlarged.proofs.has_ban.Goals as goal

pub returns : goal.returns
returns c =
    let e = c.args.e.now in
    let P = λ (w : ℕ). barred e c.args.x w ≡ true in
    exactly_iff ((λ s. record { x = s.k; below = s.below; passes = s.holds }), (λ s. record { k = s.x; from = omega arith; below = s.below; holds = s.passes }))
    (exactly_any 0 e.originals P _ _ _ c.any.ensures.ran (λ x q k. search (rules, tests)) (λ x q k. search (rules, tests)))
