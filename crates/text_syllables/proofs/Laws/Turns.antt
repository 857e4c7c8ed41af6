-- The loop over the syllables of a word: the first i stand in the buffer with breaks between them, and the next begins behind them.
use mathlib.Core.Path.{◌≡◌, ◌∙◌}
use mathlib.Core.List.{List, [], ◌∷◌}
use Prim.Native.Nat.{ℕ, ◌+◌, ◌-◌, ◌≤◌, ◌<◌}
use native.Mathlib.Omega.{arith}
use lib.ListN.{length, take, drop, get_or}
use Rattle.code.specs.Definitions.Lists.{join}
use Rattle.code.specs.Definitions.Texts.{syllable_break, syllables}
use Rattle.writing.specs.Puts.{Puts, puts_length}
use Rattle.writing.specs.Fields.{following, fields_to, none_put, field_fits, field_put, all_put}
use Rattle.text_syllables.specs.Lengths.{lengths_in, begins, begins_first, begins_next, begins_most, syllables_count, syllable_at, lengths_count, length_at}
use Rattle.text_syllables.specs.Words.{Syllabled}

module _ (lengths reading letters o : List ℕ) (at : ℕ) where
  abbrev parts : List (List ℕ)
  parts = syllables (lengths_in lengths reading) letters

  parts_count : length parts ≡ length reading
  parts_count = syllables_count (lengths_in lengths reading) letters ∙ lengths_count lengths reading

  pub record Going (p : List ℕ) (next from i : ℕ) : Type 0 where
    pub count : i ≤ length reading
    pub place : from ≡ begins (lengths_in lengths reading) i
    pub puts : Puts at (fields_to (syllable_break ∷ []) parts i) o p next

  pub going_start : Going o at 0 0
  going_start = record { count = omega arith; place = begins_first (lengths_in lengths reading); puts = none_put (syllable_break ∷ []) parts at o }

  module _ {p : List ℕ} {next from i : ℕ} (g : Going p next from i) where
    pub going_length : length p ≡ length o
    going_length = puts_length g.puts

    pub going_end : length reading ≤ i → Puts at (join (syllable_break ∷ []) parts) o p next
    going_end h = all_put (syllable_break ∷ []) parts i g.puts (omega (arith, parts_count))

    -- One turn, where the syllable goes up to `to`.
    module _ (s : Syllabled lengths reading letters) (h : i < length reading) {to : ℕ} (e : to ≡ from + get_or lengths (get_or reading i 0) 0) where
      pub turn_place : to ≡ begins (lengths_in lengths reading) (i + 1)
      turn_place =
          omega (arith, e, g.place, length_at lengths reading i h, begins_next (lengths_in lengths reading) i (omega (arith, lengths_count lengths reading)))

      pub turn_fits : to ≤ length letters
      turn_fits = omega (arith, turn_place, begins_most (lengths_in lengths reading) (i + 1), s.whole)

      turn_syllable : get_or parts i [] ≡ take (to - from) (drop from letters)
      turn_syllable =
          let size : get_or (lengths_in lengths reading) i 0 ≡ to - from = omega (arith, e, length_at lengths reading i h) in
          syllable_at (lengths_in lengths reading) letters i (omega (arith, lengths_count lengths reading)) ∙ rw (size, g.place)

      pub turn_room : at + length (join (syllable_break ∷ []) parts) ≤ length o → next + length (following (syllable_break ∷ []) i (take (to - from) (drop from letters))) ≤ length p
      turn_room room = rw turn_syllable at (field_fits (syllable_break ∷ []) parts i g.puts (omega (arith, parts_count)) room)

      pub going_next : {q : List ℕ} {r : ℕ} → Puts next (following (syllable_break ∷ []) i (take (to - from) (drop from letters))) p q r → Going q r to (i + 1)
      going_next f = record {
        count = omega arith;
        place = turn_place;
        puts = field_put (syllable_break ∷ []) parts i g.puts (omega (arith, parts_count)) (rw turn_syllable f);
      }
