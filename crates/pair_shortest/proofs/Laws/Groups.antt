-- Group after group: what a group leaves, and what the whole search answers.
use Rattle.std.proofs.Common.{Some, None, ControlFlow, Continue, Break}
use mathlib.Core.Path.{◌≡◌}
use mathlib.Core.List.{List}
use Prim.Native.Nat.{ℕ, ◌+◌, ◌-◌, ◌≤◌, ◌<◌}
use native.Mathlib.Omega.{arith}
use Rattle.pair_places.specs.Flat.{Laid, pair_count}
use Rattle.pair_places.specs.Opens.{open_graph}
use Rattle.pair_places.specs.Roots.{Numbered}
use Rattle.pair_groups.specs.Ensured.{Known, Stands, GoalNext, Progressed}
use Rattle.pair_groups.proofs.Laws.Frontier.{no_goal}
use Rattle.pair_groups.specs.Queue.{IsGroup, Between}
use Rattle.pair_groups.specs.Room.{tail_most}
use Rattle.pair_groups.specs.Parts.{entries_known, was_goal, was_tail}
use Rattle.pair_groups.specs.Slots.{slots_begin}
use Rattle.pair_groups.specs.Turns.{enter, next_group}
use Rattle.pair_shortest.specs.declared.Rest.{Rest}
use Rattle.pair_shortest.specs.Ensured.{Expanded, ended, moved, Explored, reached, exhausted}

-- The entries in use have a cell, or the source.
pub between_known : {f ms q : List ℕ} {tail a : ℕ} → Between (open_graph f) ms q tail a → Known f q tail
between_known s = entries_known s.queue (omega arith)

-- A group that was found is entered.
pub entered : {f ms q : List ℕ} {tail a b : ℕ} → Laid f → Between (open_graph f) ms q tail a → IsGroup (open_graph f) q tail a b → Stands f ms q tail a b 0 a 0
entered laid s p = slots_begin (enter s p)

-- What `advance` returns.
pub expand_goal : {f ms q : List ℕ} {a b t k c x : ℕ} {r : ControlFlow ℕ ℕ} → Progressed f ms q a b t k c r → r ≡ Break x → Expanded f ms q a (Break x)
expand_goal h e = ended (was_goal h e)

pub expand_next : {f ms q : List ℕ} {a b k c e : ℕ} {r : ControlFlow ℕ ℕ} → Progressed f ms q a b 16 k c r → r ≡ Continue e
    → Expanded f ms q a (Continue record { start = b; tail = e })
expand_next h d = let s = was_tail h d in moved s.stage.group.some (next_group s.stage (omega arith))

-- What each answer of `advance` says.
module _ {f ms q : List ℕ} {a : ℕ} where
  was_ended : {x : ℕ} {r : ControlFlow ℕ Rest} → Expanded f ms q a r → r ≡ Break x → GoalNext f q a x
  was_ended {x} (ended {x = y} h) e = let z : y ≡ x = cc in rw z at h
  was_ended (moved l h) e = let z : ◌≡◌ {A = ℕ} 0 1 = cc in absurd (omega arith)

  pub was_moved : {n : Rest} {r : ControlFlow ℕ Rest} → Expanded f ms q a r → r ≡ Continue n → Between (open_graph f) ms q n.tail n.start
  was_moved (ended h) d = let z : ◌≡◌ {A = ℕ} 0 1 = cc in absurd (omega arith)
  was_moved {n} (moved {r = m} l h) d = let z : m ≡ n = cc in rw z at h

  pub was_on : {n : Rest} {r : ControlFlow ℕ Rest} → Expanded f ms q a r → r ≡ Continue n → a < n.start
  was_on (ended h) d = let z : ◌≡◌ {A = ℕ} 0 1 = cc in absurd (omega arith)
  was_on {n} (moved {r = m} l h) d = let z : m ≡ n = cc in rw z at l

-- What `explore` returns: at a goal,
pub explore_goal : {f ms q : List ℕ} {a x : ℕ} {r : ControlFlow ℕ Rest} → Expanded f ms q a r → r ≡ Break x → Explored f q (Some record { start = a; symbol = x })
explore_goal h e = reached (was_ended h e)

-- and with no group left.
pub explore_end : {f ms q : List ℕ} {tail a : ℕ} → Laid f → Between (open_graph f) ms q tail a → tail ≤ a → Explored f q None
explore_end laid s h = exhausted (no_goal s h)

-- The next group starts later, so few are left.
pub explore_less : {f ms q : List ℕ} {tail a : ℕ} {n : Rest} {r : ControlFlow ℕ Rest} → Expanded f ms q a r → r ≡ Continue n → a < tail
    → tail ≤ pair_count f + 1 → pair_count f + 1 - n.start < pair_count f + 1 - a
explore_less h d l k = let o = was_on h d in omega arith

pub moved_few : {f ms q : List ℕ} {a : ℕ} {n : Rest} {r : ControlFlow ℕ Rest} → Laid f → Numbered f → Expanded f ms q a r → r ≡ Continue n → n.tail ≤ pair_count f + 1
moved_few laid n h d = tail_most laid n (was_moved h d).queue
