use Rattle.std.proofs.Common.{refl, rules, tests, []}
use Rattle.code.specs.Definitions.Lists.{tabulate}
use Rattle.code.specs.Definitions.Bans.{origin}
use Rattle.code.specs.Definitions.Enlarged.{plain_of}
use Rattle.code.specs.Laws.Chains.{made_of}
use Rattle.well_enlarged.proofs.plain.Goals as goal

pub returns : goal.returns
unfolding plain_of tabulate
returns c =
    let made = made_of (origin c.args.code.count []) _ _ 32 0 c.from_fn-origins.ensures.items (λ x y q h k. search (rules, tests)) in
    rw made refl
