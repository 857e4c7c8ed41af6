-- How long the output is. 02, request 4: "The output buffer needs twice the input plus one": a word with a reading gets one byte less than it has syllables, and
-- these are no more than its letters; brackets are two. Only a word of one letter in brackets takes one byte more than twice its length, and behind a word comes
-- the end or another byte.
use Rattle.std.specs.Prelude.{◌≡◌, List, [], ◌∷◌, ◌++◌, ℕ, ◌+◌, ◌*◌, ◌≤◌, length}
use Rattle.std.proofs.Common.{ap, arith, length-append}
use Rattle.std.proofs.lemmas.List.{length-map}
use Rattle.code.specs.Definitions.Lists.{sum, join}
use Rattle.code.specs.Definitions.Tables.{Table, word}
use Rattle.code.specs.Definitions.Texts.{run, rest, syllable_break, syllables, lengths_of, Shows, split, none, several, Splits, end, copied, shown}
use Rattle.code.specs.Laws.Sequences.{NonEmpty}
use Rattle.text_theory.specs.Runs.{Apart, letter_apart, run-rest, rest_apart, run_some}
use Rattle.text_theory.specs.Syllables.{joined_length, reads_length, reads_count}

no_lengths : 1 ≤ sum [] → ⊥
unfolding sum
no_lengths h = absurd (omega arith)

-- Lengths that are no more than the letters
pub joined_most : (b : ℕ) (l w : List ℕ) → length w ≡ sum l → length l ≤ length w → 1 ≤ length w → length (join (b ∷ []) (syllables l w)) + 1 ≤ 2 * length w
joined_most b [] w e h s = absurd (no_lengths (rw e at s))
joined_most b (n ∷ l) w e h s = omega (arith, joined_length b (n ∷ l) w e (omega arith))

pub bracketed_length : (a b : ℕ) (w : List ℕ) → length (a ∷ (w ++ (b ∷ []))) ≡ length w + 2
bracketed_length a b w = omega (arith, length-append w (b ∷ []))

module _ {t : Table} {classes : List ℕ} (some : NonEmpty t) where
  shows_length : {w p : List ℕ} → 1 ≤ length w → Shows t classes w p → length p ≤ 2 * length w + 1
  shows_length {w} h (split {r} o) =
      let e = reads_length t classes w o.reads in
      let few : length (lengths_of t r) ≤ length w = omega (arith, reads_count t classes w o.reads some, length-map r (λ x. length (word t x))) in
      omega (arith, joined_most syllable_break (lengths_of t r) w e few h)
  shows_length {w} h (none n) = omega (arith, bracketed_length 40 41 w)
  shows_length {w} h (several n) = omega (arith, bracketed_length 91 93 w)

  -- A text that begins with no letter does without the one byte.
  lengths : {s o : List ℕ} → Splits t classes s o → (length o ≤ 2 * length s + 1) × (Apart classes s → length o ≤ 2 * length s)
  lengths end = (omega arith, λ a. omega arith)
  lengths (copied h d) = let g = lengths d in (omega (arith, g.0), λ a. omega (arith, g.0))
  lengths (shown {a} {s} {p} {o} h q d) =
      let g = (lengths d).1 (rest_apart classes (a ∷ s)) in
      let whole = ap length (run-rest classes (a ∷ s)) in (
        omega (arith, g, shows_length (run_some classes a s h) q, length-append p o, length-append (run classes (a ∷ s)) (rest classes (a ∷ s)), whole),
        λ b. absurd (letter_apart classes h b),
      )

  pub splits_length : {s o : List ℕ} → Splits t classes s o → length o ≤ 2 * length s + 1
  splits_length d = (lengths d).0
