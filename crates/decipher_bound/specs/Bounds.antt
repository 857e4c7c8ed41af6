-- What the searches over a code's pairs say of its delay: where a walk leads to two ends, or walks have no bound, it has none; else it is that of the longest walk.
use Rattle.std.specs.Prelude.{◌≡◌, refl, Option, Some, None, Bool, true, false, List, [], ℕ, ◌+◌, ◌≤◌, length, replicate}
use Rattle.std.proofs.Common.{ap, ◌∙◌, arith}
use Rattle.std.proofs.lemmas.List.{length-replicate}
use Rattle.code.specs.declared.SymbolCount.{SymbolCount}
use Rattle.code.specs.declared.Verdict.{Verdict}
use Rattle.code.specs.declared.Verdict.TheVariants.{Finite, Unbounded}
use Rattle.code.specs.Definitions.Delays.{Delay}
use Rattle.code.specs.Definitions.NextWords.{NoDelay}
use Rattle.code.specs.Definitions.Operations.{unordered_pairs}
use Rattle.code.specs.Definitions.Sheets.{limits}
use Rattle.code.specs.Definitions.Tables.{Table}
use Rattle.code.proofs.Laws.Delays.{delay_bounds, delay_decipherable}
use Rattle.code.specs.Laws.Readings.{decipherable_not_two}
use Rattle.decipher_delay.specs.Delays.{delay_of, verdict_of, DelayBy, finite, unbounded, given, delay_means}
use Rattle.pair_longest.specs.Extents.{Given}
use Rattle.graph.specs.Goals.{NoGoal}
use Rattle.graph.specs.Graph.{Endless}
use Rattle.pair_graph.specs.OpenPairs.{open_finds}
use Rattle.pair_graph.specs.RivalPairs.{Ended}
use Rattle.pair_places.specs.Flat.{Laid, pair_count, pair_graph}
use Rattle.pair_places.specs.Nodes.{pairs_limited}
use Rattle.pair_places.specs.Opens.{open_graph}
use Rattle.pair_places.specs.Roots.{Numbered}
use Rattle.pair_places.specs.Whole.{LaidOut}
use Rattle.pair_rivals.specs.Rivals.{some_rivals}
use Rattle.pair_shortest.specs.Ensured.{Clear, SomeGoal}
use Rattle.pair_shortest.specs.Writing.{clear_zeros}
use Rattle.pair_storage.specs.Cleared.{clear_marks}
use Rattle.pair_storage.specs.Marks.{marks}
use Rattle.pair_storage.specs.Rooms.{room_of, room_cells, room_pairs}
use Rattle.code.specs.Laws.Exactly.{Exactly}
use Rattle.pair_theory.specs.Ambiguity.{ends→readings}

-- The delay by the walks over the pairs of f, or why there is none.
pub data BoundBy (f : List ℕ) : Option SymbolCount → Type 0 where
  known : {d : SymbolCount} → NoGoal (open_graph f) → DelayBy f (Finite d) → BoundBy f (Some d)
  ambiguous : SomeGoal (open_graph f) → BoundBy f None
  endless : NoGoal (open_graph f) → Endless (pair_graph f) → BoundBy f None

-- A clear list serves both searches.
module _ (f w : List ℕ) {w' : List ℕ} (room : room_of f ≤ length w) (clear : w' ≡ replicate (length w) 0) where
  pub clear_list : Clear f (marks f w')
  clear_list = rw (clear, clear_marks f (length w) (omega (arith, room_cells f))) (clear_zeros f)

  pub clear_queue : pair_count f + 2 ≤ length w'
  clear_queue = omega (arith, room_pairs f, ap length clear ∙ length-replicate {A = ℕ} (length w) 0)

  pub clear_given : Laid f → Numbered f → Given f (marks f w') w'
  clear_given l n = given {n = length w} l n (omega (arith, room_cells f)) clear

-- What `find_delay` returns.
module _ (f : List ℕ) {b : Bool} (x : Exactly b (SomeGoal (open_graph f))) where
  pub bound_ends : b ≡ true → BoundBy f None
  bound_ends e = ambiguous (x.yes e)

  no_goal : b ≡ false → NoGoal (open_graph f)
  no_goal e m g = x.no e (record { symbols = m; goal = g })

  module _ (e : b ≡ false) where
    pub bound_delay : {d : SymbolCount} {v : Verdict} → DelayBy f v → v ≡ Finite d → BoundBy f (Some d)
    bound_delay {d} h q = known (no_goal e) (rw q at h)

    pub bound_endless : {v : Verdict} → DelayBy f v → v ≡ Unbounded → BoundBy f None
    bound_endless (finite l q) z = let w : ◌≡◌ {A = ℕ} 0 1 = cc in absurd (omega arith)
    bound_endless (unbounded u) z = endless (no_goal e) u

    pub bound_walks : {r : Option SymbolCount} → DelayBy f (verdict_of r) → BoundBy f r
    bound_walks {r = Some d} h = bound_delay h refl
    bound_walks {r = None} h = bound_endless h refl

-- What a bound says: the delay, with its walks,
pub record KnownBy (f : List ℕ) (d : SymbolCount) : Type 0 where
  pub none : NoGoal (open_graph f)
  pub delay : DelayBy f (Finite d)

pub was_known : {f : List ℕ} {d : SymbolCount} {b : Option SymbolCount} → BoundBy f b → b ≡ Some d → KnownBy f d
was_known {f} {d} (known {d = c} n h) e =
    let z : c ≡ d = cc in
    let k : KnownBy f c = record { none = n; delay = h } in
    rw z at k
was_known (ambiguous g) e = let z : ◌≡◌ {A = ℕ} 0 1 = cc in absurd (omega arith)
was_known (endless n u) e = let z : ◌≡◌ {A = ℕ} 0 1 = cc in absurd (omega arith)

-- 01: "Delays therefore run from 0 to 8,257 at most."
pub delay_low : {f : List ℕ} {d : SymbolCount} {v : Verdict} → Laid f → DelayBy f v → v ≡ Finite d → d.0 ≤ unordered_pairs limits + 1
delay_low {f} {d = d} l (finite {d = c} {r = r} w e) q =
    let z : c ≡ d = cc in
    let h : c.0 ≤ r + 1 = rw e (low (some_rivals f)) in
    rw z at (by h)
  where
    low : (b : Bool) → delay_of b r ≤ r + 1
    low true = omega arith
    low false = omega arith

    by : c.0 ≤ r + 1 → c.0 ≤ unordered_pairs limits + 1
    by h = omega (arith, pairs_limited l, w.low)
delay_low l (unbounded u) q = let z : ◌≡◌ {A = ℕ} 0 1 = cc in absurd (omega arith)

module _ {f : List ℕ} {d : SymbolCount} {b : Option SymbolCount} (h : BoundBy f b) (e : b ≡ Some d) where
  pub known_low : Laid f → d.0 ≤ unordered_pairs limits + 1
  known_low l = delay_low l (was_known h e).delay refl

  -- it is the delay of the table that is laid out;
  pub known_means : {t : Table} → LaidOut t f → Ended t f → Delay t d.0
  known_means laid ended = (delay_means laid ended (was_known h e).none [] [] [] (was_known h e).delay).1

-- or that it has none.
pub nothing_means : {t : Table} {f : List ℕ} {b : Option SymbolCount} → LaidOut t f → Ended t f → BoundBy f b → b ≡ None → NoDelay t
nothing_means laid ended (known n h) e = let z : ◌≡◌ {A = ℕ} 0 1 = cc in absurd (omega arith)
nothing_means laid ended (ambiguous g) e = λ N d.
    decipherable_not_two (ends→readings laid.fits.plain ((open_finds laid ended.closed).ends g.goal)) (delay_decipherable laid.fits.plain.some d)
nothing_means {f = f} laid ended (endless n u) e =
    let k : DelayBy f Unbounded = unbounded u in
    λ N d. delay_bounds d (delay_means laid ended n [] [] [] k).1
