-- The states of a depth-first search: how one begins, what holds of the node on top, and what is known at its end.
use Rattle.std.specs.Prelude.{◌≡◌, true, List, ℕ, ◌+◌, ◌-◌, ◌≤◌, ◌<◌, length, get_or, set}
use Rattle.std.proofs.Math.Decide.{dec_lt}
use Rattle.std.proofs.Common.{arith, length-set}
use Rattle.graph.specs.Graph.{Graph}
use Rattle.code.specs.Laws.Cells.{on_push, inside, total-set, total_le}
use Rattle.graph.specs.Paths.{Reached, reached_root}
use Rattle.pair_storage.specs.Fields.{above_in}
use Rattle.pair_storage.specs.Entries.{node_in, node_at}
use Rattle.pair_heights.specs.Marks.{OnStack, Finished, stacked, stacked_zero, stacked_one, stacked_le, Marks, marks_met}
use Rattle.pair_heights.specs.Stack.{Stack, stack_start}
use Rattle.pair_heights.specs.Height.{HeightSoFar, so_far_first}

-- No search is under way: the marks are right, and none is that of a node on the stack.
pub record Idle (g : Graph) (xs : List ℕ) : Type 0 where
  pub marks : Marks g xs
  pub none : (v : ℕ) → OnStack g (get_or xs v 0) → ⊥

-- A search is under way, with d entries on the stack.
pub record State (g : Graph) (xs sk : List ℕ) (d : ℕ) : Type 0 where
  pub wide : g.nodes ≤ length sk
  pub marks : Marks g xs
  pub stack : Stack g xs sk d
  pub heights : (i : ℕ) → i < d → HeightSoFar g xs (get_or sk i 0)

-- the node on top of a stack of d entries
abbrev pub top : List ℕ → ℕ → ℕ
top sk d = node_at sk (d - 1)

-- There is room on the stack while some node is not met.
pub has_room : {g : Graph} {xs sk : List ℕ} {d : ℕ} → State g xs sk d → (w : ℕ) → w < g.nodes → get_or xs w 0 ≡ 0 → d < length sk
has_room {g} {xs = xs} s w n e =
    let l : w < length xs = omega (arith, s.marks.size) in
    omega (
      arith,
      s.wide,
      s.marks.size,
      s.stack.room,
      total-set (stacked g) xs w 1 l,
      stacked_zero g e,
      stacked_one g {x = 1} (omega arith),
      total_le (stacked g) (set xs w 1) (stacked_le g),
      length-set xs w 1,
    )

-- All entries stand in the list.
pub has_entries : {g : Graph} {xs sk : List ℕ} {d : ℕ} → State g xs sk d → d ≤ length sk
has_entries {g} {xs} s = omega (arith, s.stack.room, s.wide, s.marks.size, total_le (stacked g) xs (stacked_le g))

-- What holds of the node on top.
pub record AtTop (g : Graph) (xs sk : List ℕ) (d : ℕ) : Type 0 where
  pub on : OnStack g (get_or xs (top sk d) 0)
  pub inside : top sk d < length xs
  pub reached : Reached g (top sk d)
  pub height : HeightSoFar g xs (get_or sk (d - 1) 0)

pub at_top : {g : Graph} {xs sk : List ℕ} {d : ℕ} → State g xs sk d → 1 ≤ d → AtTop g xs sk d
at_top {xs = xs} {sk = sk} {d = d} s some =
    let o = s.stack.on (d - 1) (omega arith) in
    record {
      on = o;
      inside = inside xs (top sk d) o.0;
      reached = s.marks.reached (top sk d) o.0;
      height = s.heights (d - 1) (omega arith);
    }

-- A search begins: the root is the only node on the stack.
pub begun : {g : Graph} {xs : List ℕ} → Idle g xs → (sk : List ℕ) (r e : ℕ) → node_in e ≡ r → above_in e ≡ 0 → g.nodes ≤ length sk → r < g.nodes
    → g.root r ≡ true → get_or xs r 0 ≡ 0 → State g (set xs r 1) (set sk 0 e) 1
begun {g} {xs} i sk r e node height wide n root new =
    let l : r < length xs = omega (arith, i.marks.size) in
    let o : get_or xs r 0 ≤ g.slots + 1 = omega arith in
    record {
      wide = simp length-set wide;
      marks = marks_met i.marks r 1 l (reached_root n root) o (omega arith);
      stack = stack_start xs sk r e node l new (omega arith) i.none;
      heights =
          on_push sk 0 e (omega arith) (λ k x. HeightSoFar g (set xs r 1) x) (so_far_first xs r l o node height) (λ k h. absurd (omega arith));
    }

-- A search has ended: no node is on the stack, so those met are finished.
pub ended : {g : Graph} {xs sk : List ℕ} → State g xs sk 0 → Idle g xs
ended s = record { marks = s.marks; none = λ v o. let p = s.stack.found v o in omega (arith, p.below) }

pub all_finished : {g : Graph} {xs : List ℕ} → Idle g xs → (v : ℕ) → 1 ≤ get_or xs v 0 → Finished g (get_or xs v 0)
all_finished {g} {xs} i v m = go (dec_lt (get_or xs v 0) (g.slots + 2))
  where
    go : Dec (get_or xs v 0 < g.slots + 2) → Finished g (get_or xs v 0)
    go (yes h) = absurd (i.none v (m, omega arith))
    go (no n) = omega arith
