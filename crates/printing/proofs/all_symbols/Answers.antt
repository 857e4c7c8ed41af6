-- Past the end a read gives 0, which is a symbol too.
use mathlib.Core.Bool.{Bool, true, false}
use mathlib.Core.List.{List}
use Prim.Native.Nat.{ℕ, ◌<◌, ◌≤◌}
use native.Mathlib.Omega.{arith}
use lib.ListN.{length}
use borrow.Author.Rules.{rules}
use borrow.Author.Tests.{tests}
use Rattle.std.specs.Bool.{MatchBool}
use Rattle.std.specs.List.{AllWithin, HoldsAt}
use Rattle.std.proofs.lemmas.Iterator.{cases_from_all, YieldsList-from_slice}
use Rattle.code.specs.Laws.Exactly.{Exactly, exactly_true, exactly_false}
use Rattle.printing.specs.Prints.{Symbols, all_symbols_lem}
use Rattle.printing.proofs.all_symbols.Goals as goal

by_cases : (m : List ℕ) (r : Bool) → MatchBool r (AllWithin (λ x. x < 16) m 0 (length m)) ((k : ℕ) × (k < length m) × HoldsAt (λ x. 16 ≤ x) m k) → Exactly r (Symbols m)
by_cases m true h = exactly_true (all_symbols_lem m (length m) (omega arith) (λ k l. h k 0 (omega arith) l))
by_cases m false (k, l, h) = exactly_false (λ all. omega (arith, all k, h 0))

pub returns : goal.returns
returns c =
    let m = c.args.message.now in
    by_cases m c.all.result
    (cases_from_all _ _ _ (λ x. x < 16) (λ x. 16 ≤ x) c.all.ensures.ran (YieldsList-from_slice m (cc)) (λ x q k. search (rules, tests)) (λ x q k. search (rules, tests)))
