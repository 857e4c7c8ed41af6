-- The copy that is found is the first of x after y.
use Rattle.std.proofs.Common.{◌≡◌, ◌∙◌, List, [], ℕ, ◌≤◌, ◌<◌, rules, tests, Option, None, Some, MatchOption}
use Rattle.std.specs.Option.{unwrap_or}
use Rattle.std.proofs.lemmas.Iterator.{first_from_Range}
use Rattle.code.specs.declared.Enlarged.{Enlarged}
use Rattle.code.specs.Definitions.Bans.{number_after}
use Rattle.code.specs.Definitions.Enlarged.{copies_in}
use Rattle.well_enlarged.proofs.Laws.Tested.{Stands, next_found, next_none}
use Rattle.well_enlarged.proofs.number_after.Goals as goal

next_from : (e : Enlarged) (y x : ℕ) (r : Option ℕ)
    → MatchOption r ((k : ℕ) → e.originals ≤ k → k < e.code.count → Stands e y x k → ⊥)
    (λ i. (e.originals ≤ i) × (i < e.code.count) × Stands e y x i × ((k : ℕ) → e.originals ≤ k → k < i → Stands e y x k → ⊥))
    → unwrap_or r x ≡ number_after e.originals (copies_in e) y x
next_from e y x None none = next_none e y x none
next_from e y x (Some i) first = next_found e y x i first.0 first.1 first.2 first.3

-- The numbers as those of a value, whose words do not matter here.
abbrev value : (origins behind : List ℕ) (n count : ℕ) → Enlarged
value origins behind n count =
    record { code = record { words = []; rows = []; begins = []; count = count }; originals = n; origins = origins; behind = behind }

pub returns : goal.returns
returns c =
    let e = value c.args.origins.now c.args.behind.now c.args.n c.args.count in
    let S = Stands e c.args.y c.args.x in
    c.unwrap_or.ensures
    ∙ next_from e c.args.y c.args.x c.find.result
    (first_from_Range _ _ _ c.find.result S (λ i. S i → ⊥) c.find.ensures.ran (λ x q k. search (rules, tests)) (λ x q k. search (rules, tests)))
