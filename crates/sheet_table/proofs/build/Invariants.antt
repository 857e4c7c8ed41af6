-- The loop keeps the table after k records and where the next one begins.
use Rattle.code.specs.Laws.Clean.{record_fields}
use Rattle.sheet_table.specs.Building.{Built}
use Rattle.sheet_table.proofs.build.Given as goal

abbrev pub invariant-loop-k : goal.invariant-loop-k
invariant-loop-k l = Built l.s (record_fields l.s) l.code l.at l.k
