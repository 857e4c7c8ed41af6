-- No byte so far was wrong, so the rest tells.
use mathlib.Core.Path.{◌≡◌}
use mathlib.Core.Bool.{false}
use lib.ListN.{drop}
use Rattle.code.specs.Definitions.Sheets.{bad_bytes}
use Rattle.csv_records.proofs.bad_bytes.Given as goal

abbrev pub invariant-loop-b : goal.invariant-loop-b
invariant-loop-b l = bad_bytes l.cr (drop l.b-index l.s) ≡ bad_bytes false l.s
