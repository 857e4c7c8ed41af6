use mathlib.Core.Path.{refl}
use Rattle.code.specs.Definitions.Lists.{tabulate}
use Rattle.ban_copies.specs.Adding.{own_next, start}
use borrow.Author.Rules.{rules}
use Rattle.ban_copies.proofs.adding.no_copies.Goals as goal

pub loop-x-init : goal.loop-x-init
unfolding tabulate
loop-x-init c = refl

pub loop-x-preserved : goal.loop-x-preserved
loop-x-preserved c = let l = c.loop-x in rw l.invariant (own_next c.args.n l.x (search rules) (search rules))

pub returns : goal.returns
returns c = let l = c.loop-x in let a = c.args in start a.n a.symbols l.x l.invariant (search rules) (search rules)
