use Rattle.std.proofs.Common.{◌≤◌, ◌<◌, rules, tests}
use Rattle.std.proofs.lemmas.Iterator.{cases_from_any, YieldsList-from_slice}
use Rattle.encode_permitted.specs.Originals.{unknown_cases}
use Rattle.encode_permitted.proofs.has_unknown.Goals as goal

pub returns : goal.returns
returns c =
    let n = c.args.e.originals in
    unknown_cases c.requires c.args.words.now _
    (cases_from_any _ _ _ (λ x. n ≤ x) (λ x. x < n) c.any.ensures.ran (YieldsList-from_slice c.args.words.now cc) (λ x q k. search (rules, tests)) (λ x q k. search (rules, tests)))
