-- The loop lists the words below z, each with its copies.
use Rattle.code.specs.Definitions.Sheets.{limits}
use Rattle.renumbering.specs.Origins.{ListedTo}
use Rattle.renumbering.proofs.origins.by_origin.Given as goal

abbrev pub invariant-loop-z : goal.invariant-loop-z
invariant-loop-z l = ListedTo limits l.origins l.count l.z 0 l.numbers l.at
