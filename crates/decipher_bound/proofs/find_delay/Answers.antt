-- `find_delay` meets its contract: both searches get the list clear, and each answer is told.
use borrow.Author.Rules.{rules}
use mathlib.Core.Path.{◌≡◌}
use native.Mathlib.Omega.{arith}
use lib.ListN.{length}
use Rattle.std.specs.Prelude.{List, ℕ, Option}
use Rattle.code.specs.declared.SymbolCount.{SymbolCount}
use Rattle.decipher_bound.specs.Bounds.{BoundBy, clear_list, clear_queue, clear_given, bound_ends, bound_walks}
use Rattle.decipher_bound.proofs.find_delay.Goals as goal

-- What is told of a delay holds of any value that is the same.
bound_same : {f : List ℕ} {r s : Option SymbolCount} → s ≡ r → BoundBy f r → BoundBy f s
bound_same e h = rw e h

pub reaches_ends-requires : goal.reaches_ends-requires
reaches_ends-requires c =
    let clear = c.fill.ensures.after (λ y e. e) in
    (search rules, search rules, search clear_list, search clear_queue)

pub returns-then-reaches_ends : goal.returns-then-reaches_ends
returns-then-reaches_ends c = search bound_ends

pub measure-requires : goal.measure-requires
measure-requires c =
    let long : length c.reaches_ends.new.work ≡ length c.args.work.now = omega arith in
    clear_given c.args.places.now c.reaches_ends.new.work (omega (arith, c.requires.2)) (c.fill-2.ensures.after (λ y e. e)) c.requires.0 c.requires.1

pub returns : goal.returns
returns c = bound_same (grind arith) (bound_walks _ c.reaches_ends.ensures c.if-reaches_ends.false c.measure.ensures)
