-- Walks to a goal: what a search looks for, and the least symbols that such a walk reads.
use Rattle.std.specs.Prelude.{◌≡◌, true, List, ◌⊎◌, ℕ, ◌<◌, length}
use Rattle.code.specs.Definitions.Orders.{Shortlex}
use Rattle.graph.specs.Graph.{Graph, Reach}

module _ (g : Graph) where
  -- A walk that reads m leads to a goal.
  pub record GoalBy (m : List ℕ) : Type 0 where
    pub v : ℕ
    pub walk : Reach g m v
    pub met : g.goal v ≡ true

  -- A walk that reads fewer symbols than those of m leads to a goal.
  pub record GoalBefore (m : List ℕ) : Type 0 where
    pub n : List ℕ
    pub goal : GoalBy n
    pub before : length n < length m

  -- No walk leads to a goal.
  abbrev pub NoGoal : Type 0
  NoGoal = (m : List ℕ) → GoalBy m → ⊥

  -- A walk to a goal reads m, and every other one reads m or what comes after m.
  pub record LeastGoal (m : List ℕ) : Type 0 where
    pub goal : GoalBy m
    pub least : (n : List ℕ) → GoalBy n → (m ≡ n) ⊎ Shortlex m n
