-- The part of the working buffer that the searches are lent, and what comes back.
use mathlib.Core.Path.{◌≡◌}
use mathlib.Core.List.{List, ◌++◌}
use Prim.Native.Nat.{ℕ, ◌≤◌}
use native.Mathlib.Omega.{arith}
use lib.ListN.{length, take, drop, length-append, length-drop}
use lib.Seq.{length-take-le}
use Rattle.pair_storage.specs.Rooms.{room_of}

pub part_room : (f w : List ℕ) {n : ℕ} → n ≡ room_of f → n ≤ length w → room_of f ≤ length (take n w)
part_room f w {n} e h = omega (arith, length-take-le n w h)

pub lent_back : (w p : List ℕ) (n : ℕ) → n ≤ length w → length p ≡ length (take n w) → length (p ++ drop n w) ≡ length w
lent_back w p n h e = omega (arith, length-append p (drop n w), length-drop n w, length-take-le n w h)
