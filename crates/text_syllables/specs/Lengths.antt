-- The syllables of a word one by one: syllable i stands behind those before it.
use Rattle.std.specs.Prelude.{◌≡◌, refl, List, [], ◌∷◌, map, ℕ, zero, suc, ◌+◌, ◌≤◌, ◌<◌, length, take, drop, get_or}
use Rattle.std.proofs.Common.{sym, ap, ◌∙◌, arith, add-one, take-append-drop, drop-drop, take-suc}
use Rattle.std.proofs.lemmas.List.{length-map}
use Rattle.code.specs.Definitions.Lists.{sum}
use Rattle.code.specs.Definitions.Texts.{syllables}
use Rattle.code.specs.Laws.Lists.{map_at, sum_append}

-- The lengths of the words of a reading, by a list that has the length of each word.
abbrev pub lengths_in : List ℕ → List ℕ → List ℕ
lengths_in lengths r = map (λ x. get_or lengths x 0) r

-- Where syllable i begins.
abbrev pub begins : List ℕ → ℕ → ℕ
begins l i = sum (take i l)

pub begins_first : (l : List ℕ) → 0 ≡ begins l 0
unfolding sum
begins_first l = refl

pub begins_next : (l : List ℕ) (i : ℕ) → i < length l → begins l (i + 1) ≡ begins l i + get_or l i 0
unfolding sum
begins_next l i h = rw (add-one, take-suc l i 0 h) (sum_append (take i l) (get_or l i 0 ∷ []) ∙ omega arith)

pub begins_most : (l : List ℕ) (i : ℕ) → begins l i ≤ sum l
begins_most l i = omega (arith, sym (ap sum (take-append-drop i l)) ∙ sum_append (take i l) (drop i l))

pub syllables_count : (l w : List ℕ) → length (syllables l w) ≡ length l
unfolding syllables
syllables_count [] w = refl
syllables_count (n ∷ l) w = ap suc (syllables_count l (drop n w))

pub syllable_at : (l w : List ℕ) (i : ℕ) → i < length l → get_or (syllables l w) i [] ≡ take (get_or l i 0) (drop (begins l i) w)
unfolding syllables sum
syllable_at [] w i h = absurd (omega arith)
syllable_at (n ∷ l) w zero h = refl
syllable_at (n ∷ l) w (suc i) h = syllable_at l (drop n w) i (omega arith) ∙ ap (take (get_or l i 0)) (drop-drop (begins l i) n w)

module _ (lengths r : List ℕ) where
  pub lengths_count : length (lengths_in lengths r) ≡ length r
  lengths_count = length-map r (λ x. get_or lengths x 0)

  pub length_at : (i : ℕ) → i < length r → get_or (lengths_in lengths r) i 0 ≡ get_or lengths (get_or r i 0) 0
  length_at i h = map_at (λ x. get_or lengths x 0) r i 0 0 h
