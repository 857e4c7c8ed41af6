-- The last step of a path. Paths grow at the front, so a step is added at the end, and taken off there, by going through the symbols.
use Rattle.std.specs.Prelude.{◌≡◌, List, [], ◌∷◌, ◌++◌, ℕ, ◌≤◌, length}
use Rattle.std.proofs.Common.{arith}
use Rattle.code.specs.Definitions.Tables.{Table}
use Rattle.pair_theory.specs.Places.{Place, Plain, symbol, Is, Step, Path, here, then}
use Rattle.pair_theory.specs.Paths.{step_is}

module _ (t : Table) where
  -- The last step of a path, with its symbol c.
  pub record LastStep (p : Place) (m : List ℕ) (c : ℕ) (r : Place) : Type 0 where
    pub q : Place
    pub path : Path t p m q
    pub step : Step t q r
    pub reads : symbol t r ≡ c

module _ {t : Table} where
  -- No path reads the empty list.
  pub no_path : {p q : Place} → Path t p [] q → ⊥
  no_path a = elim a [ ]

  -- A path reads at least one symbol.
  pub path_long : {p q : Place} {m : List ℕ} → Path t p m q → 1 ≤ length m
  path_long (here e) = omega arith
  path_long (then e s a) = omega arith

  -- A path from a place of the table leads to one.
  pub path_is : Plain t → {p q : Place} {m : List ℕ} → Is t p → Path t p m q → Is t q
  path_is plain i (here e) = i
  path_is plain i (then e s a) = path_is plain (step_is t plain i s) a

  -- One more step, and its symbol, at the end of a path.
  pub path_step : {p q r : Place} {m : List ℕ} {c : ℕ} → Path t p m q → Step t q r → symbol t r ≡ c → Path t p (m ++ (c ∷ [])) r
  path_step (here e) s f = then e s (here f)
  path_step (then e u a) s f = then e u (path_step a s f)

  before_last : {p q r : Place} {c : ℕ} {m : List ℕ} {d : ℕ} → symbol t p ≡ d → Step t p q → LastStep t q m c r → LastStep t p (d ∷ m) c r
  before_last e s l = record { q = l.q; path = then e s l.path; step = l.step; reads = l.reads }

  two_places : {p q : Place} {c d : ℕ} → symbol t p ≡ d → Step t p q → symbol t q ≡ c → LastStep t p (d ∷ []) c q
  two_places {p} e s f = record { q = p; path = here e; step = s; reads = f }

  -- The last step of a path of two symbols or more.
  pub last_step : (m : List ℕ) {c d : ℕ} {p r : Place} → Path t p (d ∷ (m ++ (c ∷ []))) r → LastStep t p (d ∷ m) c r
  last_step [] (then e s (here f)) = two_places e s f
  last_step [] (then e s (then f u a)) = absurd (no_path a)
  last_step (x ∷ m) (then e s a) = before_last e s (last_step m a)
