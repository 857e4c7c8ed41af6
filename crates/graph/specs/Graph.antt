-- A finite graph of numbered nodes, and what its walks read. The searches speak of such graphs; the pairs of places of a code are one.
use Rattle.std.specs.Prelude.{◌≡◌, Bool, true, List, [], ◌∷◌, ◌++◌, ℕ, suc, ◌≤◌, ◌<◌, length}

-- A node has numbered slots, and a slot leads to a node or nowhere.
pub record Graph : Type 0 where
  -- node numbers are below this
  pub nodes : ℕ
  -- slot numbers are below this
  pub slots : ℕ
  -- the node to which a slot of a node leads; a number that is no node's: nowhere
  pub arc : ℕ → ℕ → ℕ
  -- where a walk may start
  pub root : ℕ → Bool
  -- what is read on arriving at a node
  pub symbol : ℕ → ℕ
  -- what a search looks for
  pub goal : ℕ → Bool

pub record Edge (g : Graph) (v w : ℕ) : Type 0 where
  pub slot : ℕ
  pub within : slot < g.slots
  pub leads : g.arc v slot ≡ w
  pub node : w < g.nodes

-- A walk from a root to a node reads the symbols m.
pub data Reach (g : Graph) : List ℕ → ℕ → Type 0 where
  start : {v c : ℕ} → v < g.nodes → g.root v ≡ true → g.symbol v ≡ c → Reach g (c ∷ []) v
  onward : {v w c : ℕ} {m : List ℕ} → Reach g m v → Edge g v w → g.symbol w ≡ c → Reach g (m ++ (c ∷ [])) w

-- Some walk reads k symbols.
pub record WalkOf (g : Graph) (k : ℕ) : Type 0 where
  pub symbols : List ℕ
  pub end : ℕ
  pub walk : Reach g symbols end
  pub long : length symbols ≡ k

-- The longest walk reads r symbols; r is 0 where there is no root.
pub record Longest (g : Graph) (r : ℕ) : Type 0 where
  pub some : (k : ℕ) → r ≡ suc k → WalkOf g r
  pub most : (k : ℕ) → WalkOf g k → k ≤ r

-- Walks of every length.
abbrev pub Endless : Graph → Type 0
Endless g = (k : ℕ) → WalkOf g (suc k)
