-- One step of the search over pairs: the next slot of the pair on top is followed, or with none left the pair is popped.
use mathlib.Core.Path.{◌≡◌}
use mathlib.Core.List.{List}
use Prim.Native.Nat.{ℕ, ◌-◌, ◌≤◌, ◌<◌}
use native.Mathlib.Omega.{arith}
use lib.ListN.{get_or}
use Rattle.pair_places.specs.declared.Pair.{Pair}
use Rattle.pair_places.specs.Flat.{slots_of}
use Rattle.pair_places.specs.Onward.{arc_past}
use Rattle.pair_storage.specs.Fields.{Carries}
use Rattle.pair_storage.specs.Entries.{entries_in}
use Rattle.pair_storage.specs.Stores.{mark_of}
use Rattle.pair_heights.specs.Pairs.{arc_of}
use Rattle.pair_heights.specs.Search.{top_cell, top_high, top_marked, Searching}
use Rattle.pair_heights.specs.Follow.{Following}
use Rattle.pair_heights.specs.Pop.{Popping}

-- The pair p is on top, its mark is m, and it has n slots.
module _ (f sk : List ℕ) {xs : List ℕ} {d m n : ℕ} {p : Pair} (s : Searching f xs (entries_in f sk) d) (c : Carries (get_or sk (d - 1) 0) p)
    (mark : m ≡ mark_of f xs p) (count : n ≡ slots_of f p.low p.high) where
  -- One of them is left.
  pub following : m - 1 < n → Following f xs (entries_in f sk) d p (m - 1)
  following l =
      let on = top_cell f sk s.numbers c in
      record {
        searching = s;
        pair = top_marked f sk s.numbers c;
        node = on;
        slot = rw (← on, ← mark) (omega (arith, rw (← on, ← mark) at s.numbers.met));
        within = omega arith;
      }

  -- None is left.
  pub popping : n ≤ m - 1 → Popping f xs (entries_in f sk) d p
  popping l =
      let on = top_cell f sk s.numbers c in
      record {
        searching = s;
        pair = top_marked f sk s.numbers c;
        node = on;
        nowhere = λ j k.
            rw (← on, arc_of f p (top_high f sk s.numbers c) j, arc_past f p.low p.high j (omega (arith, rw (← on, ← mark) at k))) (omega arith);
      }
