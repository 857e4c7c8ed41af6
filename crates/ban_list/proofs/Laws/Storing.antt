-- Bans stored one behind the other, three numbers each.
use Rattle.std.specs.Prelude.{◌≡◌, List, [], ◌∷◌, ◌++◌, ℕ, ◌+◌, ◌*◌, ◌≤◌, ◌<◌, length, take, drop, get_or}
use Rattle.std.proofs.Common.{◌∙◌, arith, get_or-take, get_or-append-add, length-append, length-take, length-drop}
use Rattle.std.proofs.Math.ListN.{get_or-append}
use Rattle.code.specs.Laws.Lists.{tabulate_same}
use Rattle.ban_theory.specs.Triples.{ban_at, bans_from, bans_more}

-- One ban more.
module _ (l : List ℕ) (k x y z : ℕ) (room : 3 * k + 3 ≤ length l) where
  abbrev front : List ℕ
  front = take (3 * k) l

  abbrev pub stored : List ℕ
  stored = front ++ (x ∷ y ∷ z ∷ drop 3 (drop (3 * k) l))

  long : length front ≡ 3 * k
  long = omega (arith, length-take (3 * k) l)

  pub stored_long : length stored ≡ length l
  stored_long = simp (length-append, length-take, length-drop) (omega arith)

  before : (i : ℕ) → i < 3 * k → get_or stored i 0 ≡ get_or l i 0
  before i h = get_or-append front (x ∷ y ∷ z ∷ drop 3 (drop (3 * k) l)) 0 i (omega (arith, long)) ∙ get_or-take (3 * k) l i 0 h

  number : (j : ℕ) → get_or stored (3 * k + j) 0 ≡ get_or (x ∷ y ∷ z ∷ drop 3 (drop (3 * k) l)) j 0
  number j = rw long at (get_or-append-add front (x ∷ y ∷ z ∷ drop 3 (drop (3 * k) l)) j 0)

  same_before : (i : ℕ) → i < k → ban_at stored i ≡ ban_at l i
  same_before i h = rw (before (3 * i) (omega arith), before (3 * i + 1) (omega arith), before (3 * i + 2) (omega arith))

  at_x : get_or stored (3 * k) 0 ≡ x
  at_x = let e : 3 * k + 0 ≡ 3 * k = omega arith in rw e at (number 0)

  pub stored_more : bans_from stored (k + 1) ≡ bans_from l k ++ (record { x = x; y = y; z = z } ∷ [])
  unfolding bans_from
  stored_more = bans_more stored k ∙ rw (tabulate_same (ban_at stored) (ban_at l) k same_before, at_x, number 1, number 2)
