-- `pair_places::lay_out` meets its contract: after x turns the first x words are laid out, and the next word's places start after theirs.
use mathlib.Core.Path.{◌≡◌}
use Rattle.code.specs.Definitions.Tables.{table_of}
use Rattle.pair_places.specs.Lays.{base}
use Rattle.pair_places.specs.Layouts.{LaysTo}
use Rattle.pair_places.proofs.lay_out.Given as goal

abbrev pub invariant-loop-x : goal.invariant-loop-x
invariant-loop-x l = (l.at ≡ base (table_of l.code) l.x) × LaysTo (table_of l.code) l.x l.places
