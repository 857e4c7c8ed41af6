-- The height of a node is the length of the longest path from it. It follows from the heights of the successors, and the longest walk from
-- the heights of the roots.
use Rattle.std.specs.Prelude.{◌≡◌, refl, true, ℕ, zero, suc, ◌+◌, ◌≤◌, ◌<◌, max}
use Rattle.std.proofs.Common.{zero-le, arith, below_more}
use Rattle.std.proofs.Math.Decide.{dec_lt}
use Rattle.graph.specs.Graph.{Graph, Edge, WalkOf, Longest}
use Rattle.graph.specs.Paths.{PathFrom, here, along, shorter, RootPath, path_of_walk}

-- Some path from v has h edges, and none has more.
pub record Height (g : Graph) (v h : ℕ) : Type 0 where
  pub some : PathFrom g h v
  pub none : PathFrom g (suc h) v → ⊥

-- No path of h edges goes on from where slot i of v leads.
abbrev NoneThrough : Graph → ℕ → ℕ → ℕ → Type 0
NoneThrough g v h i = g.arc v i < g.nodes → PathFrom g h (g.arc v i) → ⊥

-- The height of v through its slots below j: some path from v has h edges, and none through these slots has more.
pub record HeightUpTo (g : Graph) (v j h : ℕ) : Type 0 where
  pub some : PathFrom g h v
  pub none : (i : ℕ) → i < j → g.arc v i < g.nodes → PathFrom g h (g.arc v i) → ⊥

module _ {g : Graph} where
  pub up_to_none : (v : ℕ) → HeightUpTo g v 0 0
  up_to_none v = record { some = here; none = λ i l. absurd (omega arith) }

  -- A slot that leads nowhere adds nothing.
  pub up_to_nowhere : {v j h : ℕ} → HeightUpTo g v j h → g.nodes ≤ g.arc v j → HeightUpTo g v (j + 1) h
  up_to_nowhere {v} {j} {h} t l = record { some = t.some; none = below_more (NoneThrough g v h) j t.none (λ n. absurd (omega arith)) }

  -- A successor of height k leaves v at least one higher than itself.
  pub up_to_edge : {v j h : ℕ} (k : ℕ) → HeightUpTo g v j h → j < g.slots → g.arc v j < g.nodes → Height g (g.arc v j) k
      → HeightUpTo g v (j + 1) (max h (k + 1))
  up_to_edge {v} {j} {h} k t s n e =
      record {
        some = go (dec_lt k h);
        none =
            below_more (NoneThrough g v (max h (k + 1))) j (λ i q m p. t.none i q m (shorter h (omega arith) p))
            (λ _ p. e.none (shorter (suc k) (omega arith) p));
      }
    where
      go : Dec (k < h) → PathFrom g (max h (k + 1)) v
      go (yes l) = let z : max h (k + 1) ≡ h = omega arith in rw z t.some
      go (no l) = let z : max h (k + 1) ≡ suc k = omega arith in rw z (along (record { slot = j; within = s; leads = refl; node = n }) e.some)

  no_edge : {v w j h : ℕ} → HeightUpTo g v j h → ((i : ℕ) → j ≤ i → g.nodes ≤ g.arc v i) → Edge g v w → PathFrom g h w → ⊥
  no_edge {j = j} t far s p = go (dec_lt s.slot j)
    where
      go : Dec (s.slot < j) → ⊥
      go (yes l) = t.none s.slot l (rw s.leads s.node) (rw s.leads p)
      go (no n) = omega (arith, far s.slot (omega arith), s.leads, s.node)

  no_path : {v j h k : ℕ} → HeightUpTo g v j h → ((i : ℕ) → j ≤ i → g.nodes ≤ g.arc v i) → k ≡ suc h → PathFrom g k v → ⊥
  no_path t far e here = absurd (omega arith)
  no_path {h = h} t far e (along {k = k} s p) = let q : k ≡ h = omega arith in no_edge t far s (rw q at p)

  -- Where the slots from j on lead nowhere, the height through those below is the height.
  pub up_to_all : {v j h : ℕ} → HeightUpTo g v j h → ((i : ℕ) → j ≤ i → g.nodes ≤ g.arc v i) → Height g v h
  up_to_all t far = record { some = t.some; none = no_path t far refl }

  -- The longest walk reads r symbols where some walk does, if r is not 0, and every path from a root has fewer than r edges.
  pub longest : (r : ℕ) → ((k : ℕ) → r ≡ suc k → WalkOf g r) → ((v : ℕ) → v < g.nodes → g.root v ≡ true → PathFrom g r v → ⊥) → Longest g r
  longest r some none = record { some = some; most = most }
    where
      most : (k : ℕ) → WalkOf g k → k ≤ r
      most zero w = zero-le
      most (suc k) w = go (path_of_walk w) (dec_lt k r)
        where
          go : RootPath g k → Dec (k < r) → suc k ≤ r
          go p (yes l) = l
          go p (no n) = absurd (none p.node p.inside p.root (shorter r (omega arith) p.path))
