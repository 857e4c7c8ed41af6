-- The syllables of a word: where their lengths add up to its length, they joined are the word, and each spells the word of the code that it was read as.
use Rattle.std.specs.Prelude.{◌≡◌, ℕ, zero, suc, ◌+◌, ◌≤◌, take, drop}
use Rattle.std.proofs.Math.Path.{refl}
use Rattle.std.proofs.Common.{sym, ap, ◌∙◌, arith, length-drop, length-take-le}
use mathlib.Core.List.{List, [], ◌∷◌, map}
use Rattle.std.proofs.Math.ListN.{length, length-append}
use Rattle.std.proofs.lemmas.List.{length-map}
use Rattle.std.proofs.Math.Seq.{take-append_seam, drop-append_seam}
use Rattle.code.specs.Definitions.Lists.{sum, join}
use Rattle.code.specs.Definitions.Readings.{Reads}
use Rattle.code.specs.Definitions.Tables.{Table, word, message}
use Rattle.code.specs.Definitions.Texts.{class_of, symbols_in, syllables, lengths_of}
use Rattle.code.specs.Laws.Sequences.{NonEmpty, linked_within, permitted_linked, words_most}

pub map-take : (f : ℕ → ℕ) (n : ℕ) (l : List ℕ) → map f (take n l) ≡ take n (map f l)
map-take f zero l = refl
map-take f (suc n) [] = refl
map-take f (suc n) (a ∷ l) = ap (◌∷◌ (f a)) (map-take f n l)

map-drop : (f : ℕ → ℕ) (n : ℕ) (l : List ℕ) → map f (drop n l) ≡ drop n (map f l)
map-drop f zero l = refl
map-drop f (suc n) [] = refl
map-drop f (suc n) (a ∷ l) = map-drop f n l

-- what the syllables behind the first have
pub behind_first : (n : ℕ) (l w : List ℕ) → length w ≡ sum (n ∷ l) → length (drop n w) ≡ sum l
unfolding sum
behind_first n l w e = rw length-drop (omega (arith, e))

first_long : (n : ℕ) (l w : List ℕ) → length w ≡ sum (n ∷ l) → length (take n w) ≡ n
unfolding sum
first_long n l w e = length-take-le n w (omega (arith, e))

-- Joined with a byte between them, they take that many bytes more.
pub joined_length : (b : ℕ) (l w : List ℕ) → length w ≡ sum l → 1 ≤ length l → length (join (b ∷ []) (syllables l w)) + 1 ≡ length w + length l
unfolding join syllables sum
joined_length b [] w e h = absurd (omega arith)
joined_length b (n ∷ []) w e h = omega (arith, first_long n [] w e)
joined_length b (n ∷ k ∷ l) w e h =
    let rest = join (b ∷ []) (syllables (k ∷ l) (drop n w)) in
    let behind = behind_first n (k ∷ l) w e in
    omega (arith, first_long n (k ∷ l) w e, behind, length-append (take n w) (b ∷ rest), joined_length b (k ∷ l) (drop n w) behind (omega arith))

module _ (t : Table) where
  pub message-sum : (r : List ℕ) → length (message t r) ≡ sum (lengths_of t r)
  unfolding sum
  message-sum [] = refl
  message-sum (x ∷ r) = length-append (word t x) (message t r) ∙ rw (message-sum r)

  module _ (classes w : List ℕ) {r : List ℕ} (d : Reads t (symbols_in classes w) r) where
    -- The words of a reading are as long as what is read,
    pub reads_length : length w ≡ sum (lengths_of t r)
    reads_length = sym (ap length d.joined ∙ length-map w (class_of classes)) ∙ message-sum r

    -- and there are no more of them than it has letters.
    pub reads_count : NonEmpty t → length r ≤ length w
    reads_count some =
        omega (arith, words_most t some r (linked_within (permitted_linked d.permitted)), ap length d.joined, length-map w (class_of classes))

  -- Each syllable spells its word.
  pub syllables_spell : (classes r w : List ℕ) → symbols_in classes w ≡ message t r → map (symbols_in classes) (syllables (lengths_of t r) w) ≡ map (word t) r
  unfolding syllables
  syllables_spell classes [] w e = refl
  syllables_spell classes (x ∷ r) w e =
      let n = length (word t x) in
      let front : symbols_in classes (take n w) ≡ word t x = map-take (class_of classes) n w ∙ rw (e, take-append_seam (word t x) (message t r)) in
      let behind : symbols_in classes (drop n w) ≡ message t r = map-drop (class_of classes) n w ∙ rw (e, drop-append_seam (word t x) (message t r)) in
      rw (front, syllables_spell classes r (drop n w) behind)
