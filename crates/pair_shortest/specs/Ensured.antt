-- What the functions of the search promise: the answer, and how a search stands after each group and after all.
use Rattle.std.specs.Prelude.{◌≡◌, Option, Some, None, List, ◌++◌, ℕ, ◌<◌, length, get_or, drop}
use Rattle.std.proofs.Common.{ControlFlow, Continue, Break}
use Rattle.graph.specs.Goals.{GoalBy, NoGoal, LeastGoal}
use Rattle.graph.specs.Graph.{Graph}
use Rattle.pair_places.specs.Flat.{cell_count}
use Rattle.pair_places.specs.Opens.{open_graph}
use Rattle.pair_storage.specs.Entries.{node_at, above_at}
use Rattle.pair_slots.specs.declared.Step.{Step}
use Rattle.pair_groups.specs.Ensured.{GoalNext}
use Rattle.pair_groups.specs.Queue.{Between}
use Rattle.pair_shortest.specs.declared.Rest.{Rest}

-- After the group that begins at a.
pub data Expanded (f ms q : List ℕ) (a : ℕ) : ControlFlow ℕ Rest → Type 0 where
  ended : {x : ℕ} → GoalNext f q a x → Expanded f ms q a (Break x)
  moved : {r : Rest} → a < r.start → Between (open_graph f) ms q r.tail r.start → Expanded f ms q a (Continue r)

-- After all groups.
pub data Explored (f q : List ℕ) : Option Step → Type 0 where
  reached : {s : Step} → GoalNext f q s.start s.symbol → Explored f q (Some s)
  exhausted : NoGoal (open_graph f) → Explored f q None

-- The source stands at the front of the queue.
pub record Seeded (f q : List ℕ) : Type 0 where
  pub node : node_at q 0 ≡ cell_count f
  pub from : above_at q 0 ≡ 0

-- No pair is marked.
pub record Clear (f ms : List ℕ) : Type 0 where
  pub long : length ms ≡ cell_count f
  pub clear : (v : ℕ) → get_or ms v 0 ≡ 0

-- Some walk leads to a goal.
pub record SomeGoal (g : Graph) : Type 0 where
  pub symbols : List ℕ
  pub goal : GoalBy g symbols

-- The message list held o; now the least message, of n symbols, stands at its front.
pub record Message (f o p : List ℕ) (n : ℕ) : Type 0 where
  pub symbols : List ℕ
  pub long : length symbols ≡ n
  pub least : LeastGoal (open_graph f) symbols
  pub list : p ≡ symbols ++ drop n o

-- The answer, and what becomes of the message list o.
pub data Answers (f o p : List ℕ) : Option ℕ → Type 0 where
  found : {n : ℕ} → Message f o p n → Answers f o p (Some n)
  nothing : p ≡ o → NoGoal (open_graph f) → Answers f o p None
