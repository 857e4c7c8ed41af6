-- The message that the search found is the least that a walk to two ends reads, so it has two readings and no more symbols than there are unordered pairs.
use Rattle.std.specs.Prelude.{◌≡◌, Option, Some, None, List, ℕ, ◌≤◌, length, take, drop}
use Rattle.std.proofs.Common.{sym, ap, ◌∙◌, arith, length-take, take_at}
use Rattle.code.specs.declared.Enlarged.{Enlarged}
use Rattle.code.specs.Definitions.Operations.{written}
use Rattle.code.specs.Definitions.Readings.{TwoReadings}
use Rattle.code.specs.Definitions.Enlarged.{original_table}
use Rattle.code.specs.Definitions.Sheets.{limits}
use Rattle.code.specs.Definitions.Tables.{Table, table_of}
use Rattle.ban_theory.specs.Matches.{named_two}
use Rattle.well_enlarged.specs.Meaning.{value_covers}
use Rattle.well_enlarged.specs.WellEnlarged.{WellEnlarged}
use Rattle.graph.specs.Goals.{NoGoal, LeastGoal}
use Rattle.pair_graph.specs.OpenPairs.{open_finds}
use Rattle.pair_graph.specs.RivalPairs.{Ended}
use Rattle.pair_places.specs.Flat.{pair_count}
use Rattle.pair_places.specs.Opens.{open_graph}
use Rattle.pair_places.specs.Whole.{LaidOut}
use Rattle.pair_shortest.specs.Ensured.{Message, Answers, found, nothing}
use Rattle.pair_theory.specs.Ambiguity.{ends→readings}
use Rattle.pair_theory.specs.Searches.{least_goal}
use Rattle.decipher.specs.Lengths.{least_laid}

module _ {places m m' : List ℕ} where
  pub was_found : {r : Option ℕ} {n : ℕ} → Answers places m m' r → r ≡ Some n → Message places m m' n
  was_found {n = n} (found {n = k} h) e = let z : k ≡ n = cc in rw z at h
  was_found (nothing p h) e = let z : ◌≡◌ {A = ℕ} 0 1 = cc in absurd (omega arith)

  pub was_nothing : {r : Option ℕ} → Answers places m m' r → r ≡ None → (m' ≡ m) × NoGoal (open_graph places)
  was_nothing (found h) e = let z : ◌≡◌ {A = ℕ} 0 1 = cc in absurd (omega arith)
  was_nothing (nothing p h) e = (p, h)

  module _ {r : Option ℕ} {n : ℕ} (answers : Answers places m m' r) (is : r ≡ Some n) where
    symbols_at_lem : take n m' ≡ (was_found answers is).symbols
    symbols_at_lem = let h = was_found answers is in ap (take n) h.list ∙ take_at h.symbols (drop n m) n h.long

    pub found_long : n ≡ length (take n m')
    found_long = sym (was_found answers is).long ∙ sym (ap length symbols_at_lem)

    pub found_inside : n ≤ length m'
    found_inside = omega (arith, found_long, length-take n m')

    -- It stands at the start of the message buffer, and the rest is as it was.
    pub found_written : m' ≡ written (take n m') m
    found_written = let h = was_found answers is in rw (symbols_at_lem, h.long) h.list

    pub found_least : LeastGoal (open_graph places) (take n m')
    found_least = rw symbols_at_lem (was_found answers is).least

    -- It has two readings, also by the words that the words of the code stand for,
    pub found_two : {e : Enlarged} → WellEnlarged limits e → LaidOut (table_of e.code) places → Ended (table_of e.code) places → TwoReadings (original_table e) (take n m')
    found_two value laid ended = named_two (value_covers value) (ends→readings laid.fits.plain ((open_finds laid ended.closed).ends found_least.goal))

    -- and no more symbols than there are pairs.
    pub found_short : {t : Table} → LaidOut t places → Ended t places → length (take n m') ≤ pair_count places
    found_short laid ended = least_laid laid.fits laid.lays (least_goal (open_finds laid ended.closed) found_least)
