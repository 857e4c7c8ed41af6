-- The loop lists the copies of z below x.
use Rattle.code.specs.Definitions.Sheets.{limits}
use Rattle.renumbering.specs.Origins.{ListedTo}
use Rattle.renumbering.proofs.origins.list_copies.Given as goal

abbrev pub invariant-loop-x : goal.invariant-loop-x
invariant-loop-x l = ListedTo limits l.origins l.count l.z l.x l.numbers l.end
