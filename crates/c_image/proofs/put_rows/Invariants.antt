-- The loop keeps that the rows passed are stored, and that the length is as it was.
use mathlib.Core.Path.{◌≡◌}
use lib.ListN.{length, take}
use lib.Seq.{sets}
use Rattle.c_image.specs.Image.{rows_place, rows_bytes}
use Rattle.c_image.proofs.put_rows.Given as goal

abbrev pub invariant-loop-k : goal.invariant-loop-k
invariant-loop-k l = (length l.table ≡ length l.initial.table) × (l.table ≡ sets l.initial.table rows_place (rows_bytes (take l.k l.code.rows)))
