-- The verdict on a decipherable code, from the longest walk over its pairs.
use Rattle.std.specs.Prelude.{◌≡◌, refl, Option, Some, None, Bool, true, false, List, ℕ, ◌+◌, ◌≤◌, length, replicate, if◌then◌else◌}
use Rattle.std.proofs.Common.{add-one, arith}
use Rattle.std.proofs.lemmas.List.{length-replicate}
use Rattle.code.specs.declared.SymbolCount.{SymbolCount}
use Rattle.code.specs.declared.Verdict.{Verdict}
use Rattle.code.specs.declared.Verdict.TheVariants.{Finite, Unbounded}
use Rattle.code.specs.Definitions.Answers.{VerdictMeans}
use Rattle.code.specs.Definitions.Delays.{Delay}
use Rattle.code.specs.Definitions.Operations.{zeroed, unordered_pairs}
use Rattle.code.specs.Definitions.Readings.{Decipherable}
use Rattle.code.specs.Definitions.Sheets.{limits}
use Rattle.code.specs.Definitions.Tables.{Table}
use Rattle.code.proofs.Laws.Delays.{no_rivals_delay}
use Rattle.pair_longest.specs.Answer.{was_finite}
use Rattle.pair_longest.specs.Answer as Answer
use Rattle.pair_longest.specs.Extents.{Given, LongestWalk, ExtentOf}
use Rattle.graph.specs.Goals.{NoGoal}
use Rattle.graph.specs.Graph.{Longest, Endless}
use Rattle.pair_graph.specs.OpenPairs.{open_finds}
use Rattle.pair_graph.specs.RivalPairs.{Ended, some_parting, none_part, rival_shows}
use Rattle.pair_places.specs.Flat.{Laid, cell_count, pair_graph}
use Rattle.pair_places.specs.Nodes.{pairs_limited}
use Rattle.pair_places.specs.Opens.{open_graph}
use Rattle.pair_places.specs.Roots.{Numbered}
use Rattle.pair_places.specs.Whole.{LaidOut}
use Rattle.pair_rivals.specs.Rivals.{some_rivals}
use Rattle.pair_storage.specs.Cleared.{clear_marks}
use Rattle.pair_storage.specs.Marks.{marks}
use Rattle.pair_theory.specs.Searches.{search_decipherable, search_delay, search_without_bound}

-- 01: "if the longest path has r steps from the start, the step to a first pair included, the delay is r + 1". 02, request 1: "Where no two words, whatever
-- their symbols, may both begin or both follow so, the delay is 0."
abbrev pub delay_of : (rivals : Bool) (r : ℕ) → ℕ
delay_of b r = if b then r + 1 else 0

-- The verdict on a decipherable code, from its delay, if it has one.
abbrev pub verdict_of : Option SymbolCount → Verdict
verdict_of (Some d) = Finite d
verdict_of None = Unbounded

-- The delay, or that there is none, by the walks over the pairs of f.
pub data DelayBy (f : List ℕ) : Verdict → Type 0 where
  finite : {d : SymbolCount} {r : ℕ} → LongestWalk f r → d.0 ≡ delay_of (some_rivals f) r → DelayBy f (Finite d)
  unbounded : Endless (pair_graph f) → DelayBy f Unbounded

-- The verdict is found so, and the working buffer is zero.
pub record Measured (f w w' : List ℕ) (v : Verdict) : Type 0 where
  pub delay : DelayBy f v
  pub work : w' ≡ zeroed w

-- A clear list has a clear mark for each cell.
pub given : {f w : List ℕ} {n : ℕ} → Laid f → Numbered f → cell_count f ≤ n → w ≡ replicate n 0 → Given f (marks f w) w
given {f} {n = n} l m h e = rw e record { laid = l; numbered = m; clear = clear_marks f n h; wide = omega (arith, length-replicate {A = ℕ} n 0) }

pub given_laid : {f xs w : List ℕ} → Given f xs w → Laid f
given_laid g = g.laid

-- The longest walk reads few enough symbols that one more can be counted.
pub extent_low : {f : List ℕ} {e : Option ℕ} {r : ℕ} → Laid f → ExtentOf f e → e ≡ Some r → r ≤ unordered_pairs limits
extent_low l x p = omega (arith, pairs_limited l, (was_finite x p).low)

module _ {f : List ℕ} where
  pub by_finite : {e : Option ℕ} {r : ℕ} {b : Bool} {d : SymbolCount} → ExtentOf f e → e ≡ Some r → b ≡ some_rivals f → d.0 ≡ delay_of b r → DelayBy f (Finite d)
  by_finite {r = r} x p q h = finite {r = r} (was_finite x p) (rw q at h)

  pub by_unbounded : {e : Option ℕ} → ExtentOf f e → e ≡ None → DelayBy f Unbounded
  by_unbounded (Answer.finite p) q = let z : ◌≡◌ {A = ℕ} 0 1 = cc in absurd (omega arith)
  by_unbounded (Answer.unbounded u) q = unbounded u

  pub measured : {w w' : List ℕ} {n : ℕ} {v : Verdict} → n ≡ length w → w' ≡ replicate n 0 → DelayBy f v → Measured f w w' v
  measured long clear d = record { delay = d; work = rw long at clear }

module _ {t : Table} {f : List ℕ} (laid : LaidOut t f) (ended : Ended t f) (none : NoGoal (open_graph f)) where
  deciphered : Decipherable t
  deciphered = search_decipherable (open_finds laid ended.closed) laid.fits.plain none

  by_rivals : (r : ℕ) (b : Bool) → some_rivals f ≡ b → Longest (pair_graph f) r → Delay t (if b then r + 1 else 0)
  by_rivals r true e l = rw add-one (search_delay (rival_shows laid ended) laid.fits.plain deciphered (some_parting laid ended e) l)
  by_rivals r false e l = no_rivals_delay (none_part laid ended e)

  -- Where no walk leads to two ends, the verdict by the walks holds, whatever stands for the message and its readings.
  pub delay_means : {v : Verdict} (x s u : List ℕ) → DelayBy f v → VerdictMeans t x s u v
  delay_means x s u (finite {r = r} l e) = (deciphered, rw e (by_rivals r (some_rivals f) refl l.longest))
  delay_means x s u (unbounded e) = (deciphered, search_without_bound (rival_shows laid ended) laid.fits.plain e)
