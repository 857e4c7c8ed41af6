-- What the functions on a flat list promise of a pair: the node that it is, by the cases of `pair_node`.
use Rattle.std.specs.Prelude.{◌≡◌, refl, Bool, true, false, ◌&&◌, List, ℕ, ◌≤◌, ◌<◌, min, max, ltb, eqb, if◌then◌else◌}
use Rattle.std.proofs.Common.{sym, ap₂, ◌∙◌, arith, ltb-true, eqb-true, lt-ltb, eq-eqb}
use Rattle.pair_places.specs.declared.Pair.{Pair}
use Rattle.pair_places.specs.Cells.{cell_of}
use Rattle.pair_places.specs.Flat.{symbol_at, first_at, place_count, cell_count, cell, pair_node}

-- the cell of a pair
abbrev pub pair_cell : List ℕ → Pair → ℕ
pair_cell f p = cell f p.low p.high

-- The pair r is node v, the lower place first; where v is no node, `low` is the number of places.
pub record Arrives (f : List ℕ) (v : ℕ) (r : Pair) : Type 0 where
  pub node : pair_cell f r ≡ v
  pub low : r.low ≤ place_count f
  pub high : r.high < place_count f
  pub order : r.low < place_count f → r.low ≤ r.high

-- The node of the first places of words x and y; no node where their first symbols differ.
abbrev pub start_node : List ℕ → ℕ → ℕ → ℕ
start_node f x y = pair_node f (first_at f x) (first_at f y)

-- What `no_pair` and `pair_of` return where there is no pair.
pub nowhere : (f : List ℕ) {n v : ℕ} → 0 < place_count f → n ≡ place_count f → v ≡ cell_count f → Arrives f v (record { low = n; high = 0 })
unfolding cell_of cell_count
nowhere f some n e = rw n (record { node = omega (arith, e); low = omega arith; high = omega arith; order = λ l. absurd (omega arith) })

module _ (f : List ℕ) (p q : ℕ) where
  -- Two places with the same symbol are a node.
  pub pair_node_lem : p < place_count f → q < place_count f → symbol_at f p ≡ symbol_at f q → pair_node f p q ≡ cell f (min p q) (max p q)
  pair_node_lem a b e = simp (lt-ltb _ _ a, lt-ltb _ _ b, eq-eqb _ _ e)

  -- Anything else is no node.
  pub no_pair_lem : (p < place_count f → q < place_count f → symbol_at f p ≡ symbol_at f q → ⊥) → pair_node f p q ≡ cell_count f
  no_pair_lem differ = go (ltb p (place_count f)) refl (ltb q (place_count f)) refl (eqb (symbol_at f p) (symbol_at f q)) refl
    where
      go : (a : Bool) → ltb p (place_count f) ≡ a → (b : Bool) → ltb q (place_count f) ≡ b → (e : Bool) → eqb (symbol_at f p) (symbol_at f q) ≡ e
          → (if a && b && e then cell f (min p q) (max p q) else cell_count f) ≡ cell_count f
      go true a true b true e = absurd (differ (ltb-true _ _ a) (ltb-true _ _ b) (eqb-true _ _ e))
      go true a true b false e = refl
      go true a false b z e = refl
      go false a y b z e = refl

  pub in_order_lem : p < place_count f → q < place_count f → symbol_at f p ≡ symbol_at f q → p ≤ q → Arrives f (pair_node f p q) (record { low = p; high = q })
  in_order_lem a b e l = record { node = let m : min p q ≡ p = omega arith in let n : max p q ≡ q = omega arith in sym (pair_node_lem a b e ∙ ap₂ (cell f) m n); low = omega arith; high = b; order = λ _. l }
