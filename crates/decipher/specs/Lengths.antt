-- The number of unordered pairs of places bounds the shortest ambiguous message and the delay of every table within the limits.
use Rattle.std.specs.Prelude.{◌≡◌, ◌⊎◌, ℕ, ◌+◌, ◌≤◌}
use Rattle.std.proofs.Common.{sym, inl, inr, arith}
use mathlib.Core.List.{List, [], List-discrete}
use Rattle.std.proofs.Math.Decide.{ℕ_discrete}
use Rattle.std.proofs.Math.ListN.{length}
use Rattle.code.specs.declared.Enlarged.{Enlarged}
use Rattle.code.specs.Definitions.Delays.{Delay}
use Rattle.code.specs.Definitions.Enlarged.{original_table}
use Rattle.code.specs.Definitions.Operations.{FromLists, unordered_pairs}
use Rattle.code.specs.Definitions.Orders.{Shortlex}
use Rattle.code.specs.Definitions.Readings.{TwoReadings, Ambiguous, Decipherable}
use Rattle.code.specs.Definitions.Sheets.{limits}
use Rattle.code.specs.Definitions.Tables.{Table, table_of}
use Rattle.code.specs.Laws.Lists.{tabulate-map}
use Rattle.code.specs.Laws.Readings.{first_two_readings}
use Rattle.ban_theory.specs.Matches.{named_two, lifted_two, decipherable_lifted, lifted_delay}
use Rattle.well_enlarged.specs.Listed.{from_lists}
use Rattle.well_enlarged.specs.Meaning.{Covers, value_covers}
use Rattle.pair_places.specs.Codes.{code_fits}
use Rattle.pair_places.specs.Flat.{place_count as places_laid, pair_count as pairs_laid}
use Rattle.pair_places.specs.Lays.{Lays, base}
use Rattle.pair_places.specs.Whole.{Fits}
use Rattle.pair_theory.specs.Ambiguity.{LeastTwoEnds, at_most, ends→readings, readings→ends}
use Rattle.pair_theory.specs.Finite.{place_count, pair_count, pairs_within}
use Rattle.pair_theory.specs.Lengths.{short_ends, least_short, delay_short}

module _ {t : Table} (fits : Fits t) where
  places_few : place_count t ≤ limits.total
  unfolding place_count base
  places_few = rw (← tabulate-map length t.words []) fits.total

  pairs_few : pair_count t ≤ unordered_pairs limits
  pairs_few = pairs_within t limits.total places_few

  -- The least symbols that reach two ends are no more than there are pairs, by the flat list of the table.
  places_laid_lem : {f : List ℕ} → Lays t f → place_count t ≤ places_laid f
  unfolding place_count base
  places_laid_lem l = rw (l.places, ← tabulate-map length t.words []) (omega arith)

  pub least_laid : {f m : List ℕ} → Lays t f → LeastTwoEnds t m → length m ≤ pairs_laid f
  unfolding pairs_laid
  least_laid {f} l h = omega (arith, least_short fits.plain h, pairs_within t (places_laid f) (places_laid_lem l))

  -- The least message with two readings has no more symbols: where some message has two, two ends are reached by at most so many.
  pub message_few : {m : List ℕ} → TwoReadings t m → ((n : List ℕ) → TwoReadings t n → (n ≡ m → ⊥) → Shortlex m n) → length m ≤ unordered_pairs limits
  message_few {m} two least =
      let h = short_ends fits.plain (readings→ends fits.plain two).ends in
      omega (arith, h.short, pairs_few, at_most m h.m (by h.m (ends→readings fits.plain h.ends) (List-discrete ℕ_discrete h.m m)))
    where
      by : (n : List ℕ) → TwoReadings t n → Dec (n ≡ m) → (m ≡ n) ⊎ Shortlex m n
      by n r (yes e) = inl (sym e)
      by n r (no e) = inr (least n r e)

  -- 01: "Delays therefore run from 0 to 8,257 at most."
  pub delay_few : {N : ℕ} → Decipherable t → Delay t N → N ≤ unordered_pairs limits + 1
  delay_few {N} d h = omega (arith, delay_short fits.plain N d h, pairs_few)

module _ {e : Enlarged} (lists : FromLists limits e) where
  value_fits : Fits (table_of e.code)
  value_fits = code_fits e.code (from_lists lists).code

  covers : Covers e (original_table e)
  covers = value_covers (from_lists lists)

  -- The shortest ambiguous message of a value that a sheet and a list give has at most 8,256 symbols, as many as there are pairs,
  pub value_message_few : {m s u : List ℕ} → Ambiguous (original_table e) m s u → length m ≤ unordered_pairs limits
  value_message_few a = message_few value_fits (lifted_two covers (first_two_readings a.readings)) (λ n r. a.least n (named_two covers r))

  -- and the delay of a decipherable one is at most 8,257.
  pub value_delay_few : {N : ℕ} → Decipherable (original_table e) → Delay (original_table e) N → N ≤ unordered_pairs limits + 1
  value_delay_few d h = delay_few value_fits (decipherable_lifted covers d) (lifted_delay covers h)
