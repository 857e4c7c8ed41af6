-- The letters of a sequence. Where they have one reading, splitting them puts the breaks exactly between the words of the sequence.
use Rattle.std.specs.Prelude.{◌≡◌, true, ℕ, ◌≤◌, length}
use Rattle.std.proofs.Common.{sym, arith}
use Rattle.std.proofs.Math.Bool.{and-eq-true_iff}
use mathlib.Core.List.{List, [], ◌∷◌, ◌++◌, map, append-nil}
use Rattle.code.specs.Definitions.Lists.{every, join}
use Rattle.code.specs.Definitions.Readings.{Reads, OnlyReading}
use Rattle.code.specs.Definitions.Tables.{Table, word}
use Rattle.code.specs.Definitions.Texts.{is_letter, run, rest, symbols_in, syllable_break, syllables, lengths_of, Shows, split, Splits, end, shown}
use Rattle.text_theory.specs.Runs.{none, run_until}
use Rattle.text_theory.specs.Syllables.{syllables_spell}

-- The output is the syllables with breaks between them, and each syllable spells the word of the sequence that stands there.
pub record Between (t : Table) (classes w s : List ℕ) : Type 0 where
  pub splits : Splits t classes w (join (syllable_break ∷ []) (syllables (lengths_of t s) w))
  pub spell : map (symbols_in classes) (syllables (lengths_of t s) w) ≡ map (word t) s

module _ {t : Table} (classes : List ℕ) where
  -- A text of letters alone is one word.
  pub word_splits : (a : ℕ) (w p : List ℕ) → every (is_letter classes) (a ∷ w) ≡ true → Shows t classes (a ∷ w) p → Splits t classes (a ∷ w) p
  unfolding every
  word_splits a w p l h =
      let u = run_until classes (a ∷ w) [] l none in
      let alone : (a ∷ w) ++ [] ≡ a ∷ w = append-nil (a ∷ w) in
      let runs : run classes (a ∷ w) ≡ a ∷ w = rw alone at u.0 in
      let rests : rest classes (a ∷ w) ≡ [] = rw alone at u.1 in
      let here : Shows t classes (run classes (a ∷ w)) p = rw runs h in
      let behind : Splits t classes (rest classes (a ∷ w)) [] = rw rests end in
      let letter = ((and-eq-true_iff (is_letter classes a) (every (is_letter classes) w)).0 l).0 in
      rw append-nil at (shown letter here behind)

  pub reading_splits : (w : List ℕ) {s r : List ℕ} → 1 ≤ length w → every (is_letter classes) w ≡ true → Reads t (symbols_in classes w) s
      → OnlyReading t (symbols_in classes w) r → Between t classes w s
  reading_splits [] h l d o = absurd (omega arith)
  reading_splits (a ∷ w) {s} h l d o =
      let same = o.only s d in
      let only : OnlyReading t (symbols_in classes (a ∷ w)) s = rw same o in
      record { splits = word_splits a w _ l (split only); spell = syllables_spell t classes s (a ∷ w) (sym d.joined) }
