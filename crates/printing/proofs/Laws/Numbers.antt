-- Numbers as fields in decimal.
use mathlib.Core.Path.{◌≡◌}
use mathlib.Core.List.{List, [], map}
use Prim.Native.Nat.{ℕ, ◌<◌}
use lib.ListN.{length, get_or}
use Rattle.code.specs.Laws.Lists.{map_at}
use Rattle.printing.specs.Printed.{decimal}

-- number i of some
pub number_at : (s : List ℕ) (i : ℕ) → i < length s → get_or (map decimal s) i [] ≡ decimal (get_or s i 0)
number_at s i h = map_at decimal s i [] 0 h
