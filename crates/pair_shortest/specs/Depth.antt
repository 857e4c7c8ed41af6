-- The number of steps along `from` to the source: a label has a symbol for each, and a loop counts them.
use Rattle.std.specs.Prelude.{◌≡◌, refl, List, ℕ, zero, suc, ◌+◌, ◌-◌, ◌≤◌, ◌<◌, length}
use Rattle.std.proofs.Common.{sym, ap, ◌∙◌, arith}
use Rattle.graph.specs.Graph.{Graph}
use Rattle.pair_places.specs.Flat.{Laid}
use Rattle.pair_storage.specs.Entries.{above_at, links, entries_in, above_entries_in}
use Rattle.pair_groups.specs.Labels.{Label, source, grown}

-- `from` leads from index k to the source in n steps.
pub data Depth (q : List ℕ) : ℕ → ℕ → Type 0 where
  none : {k : ℕ} → k ≡ 0 → Depth q k zero
  more : {k f n : ℕ} → f < k → above_at q k ≡ f + 1 → Depth q f n → Depth q k (suc n)

-- A label has a symbol for each step.
pub label_depth : {g : Graph} {q : List ℕ} {k : ℕ} {m : List ℕ} → Label g q k m → Depth q k (length m)
label_depth (source z) = none z
label_depth (grown l e s x) = more l e (label_depth x)

-- `from` leads along the links as along the entries.
pub depth_held : {f : List ℕ} (q : List ℕ) → Laid f → {k n : ℕ} → Depth (entries_in f q) k n → Depth (links q) k n
depth_held q laid (none z) = none z
depth_held {f} q laid (more {k = k} l e x) = more l (sym (above_entries_in f q laid k) ∙ e) (depth_held q laid x)

module _ {q : List ℕ} where
  same_more : (k : ℕ) {f h n m : ℕ} → above_at q k ≡ f + 1 → above_at q k ≡ h + 1 → Depth q f n → (Depth q h n → n ≡ m) → suc n ≡ suc m
  same_more k {f} {h} a b x r = let z : f ≡ h = omega arith in ap suc (r (rw z at x))

  pub depth_unique : {k n m : ℕ} → Depth q k n → Depth q k m → n ≡ m
  depth_unique (none z) (none y) = refl
  depth_unique (none z) (more l e y) = absurd (omega arith)
  depth_unique (more l e x) (none y) = absurd (omega arith)
  depth_unique {k} (more l e x) (more h d y) = same_more k e d x (λ z. depth_unique z y)

  pub depth_most : {k n : ℕ} → Depth q k n → n ≤ k
  depth_most (none z) = omega arith
  depth_most (more l e x) = let r = depth_most x in omega arith

-- One step from an index that is not the source.
pub record Step (q : List ℕ) (index n : ℕ) : Type 0 where
  pub some : 1 ≤ above_at q index
  pub falls : above_at q index - 1 < index
  pub rest : ℕ
  pub count : n ≡ rest + 1
  pub depth : Depth q (above_at q index - 1) rest

module _ {q : List ℕ} where
  step_more : {k f n : ℕ} → f < k → above_at q k ≡ f + 1 → Depth q f n → Step q k (suc n)
  step_more {k} {f} {n} l e x =
      let z : above_at q k - 1 ≡ f = omega arith in
      record { some = omega arith; falls = omega arith; rest = n; count = omega arith; depth = rw z x }

  pub depth_step : {k n : ℕ} → Depth q k n → 0 < k → Step q k n
  depth_step (none z) l = absurd (omega arith)
  depth_step (more h e x) l = step_more h e x

  pub depth_source : {k n : ℕ} → Depth q k n → k ≤ 0 → n ≡ 0
  depth_source (none z) l = refl
  depth_source (more h e x) l = absurd (omega arith)

-- Of the steps from `start` to the source, `count` lead to `index`.
pub record Counted (q : List ℕ) (start index count : ℕ) : Type 0 where
  pub rest : ℕ
  pub here : Depth q index rest
  pub whole : Depth q start (count + rest)
  pub low : index ≤ start

pub record HasDepth (q : List ℕ) (start : ℕ) : Type 0 where
  pub count : ℕ
  pub depth : Depth q start count

module _ {q : List ℕ} {start : ℕ} where
  pub count_begin : HasDepth q start → Counted q start start 0
  count_begin h =
      let z : 0 + h.count ≡ h.count = omega arith in
      record { rest = h.count; here = h.depth; whole = rw z h.depth; low = omega arith }

  module _ {index count : ℕ} (c : Counted q start index count) where
    -- `from` of an index that is not the source.
    module _ {r : ℕ} (e : r ≡ above_at q index) (l : 0 < index) where
      pub count_some : 1 ≤ r
      count_some = let h = (depth_step c.here l).some in omega arith

      pub count_falls : r - 1 < index
      count_falls = let h = (depth_step c.here l).falls in omega arith

      pub count_next : Counted q start (r - 1) (count + 1)
      count_next =
          let s = depth_step c.here l in
          let z : count + c.rest ≡ count + 1 + s.rest = let d = s.count in omega arith in
          let y : r - 1 ≡ above_at q index - 1 = omega arith in
          record { rest = s.rest; here = rw y s.depth; whole = rw z at c.whole; low = let h = s.falls in let k = c.low in omega arith }

    pub count_most : count ≤ start
    count_most = let h = depth_most c.whole in omega arith

    pub count_end : index ≤ 0 → Depth q start count
    count_end l =
        let z : count + c.rest ≡ count = let e = depth_source c.here l in omega arith in
        rw z at c.whole
