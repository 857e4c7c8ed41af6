-- Showing a word, by its kind: that there is room, and that what is written is what shows such a word.
use Rattle.std.specs.Prelude.{◌≡◌, List, [], ◌∷◌, ◌++◌, ℕ, ◌+◌, ◌-◌, ◌*◌, ◌≤◌, length, take, drop}
use Rattle.std.proofs.Common.{arith, length-drop, length-take-le}
use Rattle.code.specs.declared.WordCount.{WordCount}
use Rattle.code.specs.Definitions.Lists.{join}
use Rattle.code.specs.Definitions.Texts.{syllable_break, syllables}
use Rattle.text_theory.specs.Lengths.{joined_most, bracketed_length}
use Rattle.writing.specs.Puts.{Puts}
use Rattle.text_syllables.specs.declared.Kind.{Kind}
use Rattle.text_syllables.specs.declared.Kind.TheVariants.{Split, None, Several}
use Rattle.text_syllables.specs.declared.TextWord.{TextWord}
use Rattle.text_syllables.specs.Lengths.{lengths_in, lengths_count}
use Rattle.text_syllables.specs.Words.{letters_of, shown_as, Syllabled, ReadAs, KindFits, Showable}

-- the letters as the code takes them, from the word's offset to its end
abbrev pub stretch : List ℕ → TextWord → List ℕ
stretch s w = take (w.offset + w.length - w.offset) (drop w.offset s)

stretch_letters : (s : List ℕ) (w : TextWord) → stretch s w ≡ letters_of s w
stretch_letters s w = let e : w.offset + w.length - w.offset ≡ w.length = omega arith in rw e

-- Letters that are read as n words have room with breaks between them.
read_room : (lengths reading letters : List ℕ) (n : ℕ) → 1 ≤ length letters → ReadAs lengths reading letters n
    → length (join (syllable_break ∷ []) (syllables (lengths_in lengths (take n reading)) letters)) ≤ 2 * length letters
read_room lengths reading letters n some r =
    let count = lengths_count lengths (take n reading) in
    let front = length-take-le n reading r.stands in
    omega (arith, joined_most syllable_break (lengths_in lengths (take n reading)) letters r.parts.whole (omega (arith, count, front, r.most)) some)

module _ {w : TextWord} {lengths reading s : List ℕ} (h : Showable w lengths reading s) where
  pub letters_long : length (letters_of s w) ≡ w.length
  letters_long = length-take-le w.length (drop w.offset s) (rw length-drop (omega (arith, h.within)))

  module _ {c : WordCount} (e : w.kind ≡ Split c) where
    read_as : ReadAs lengths reading (letters_of s w) c.0
    read_as = rw e at h.fits

    pub split_stands : c.0 ≤ length reading
    split_stands = read_as.stands

    pub split_needs : (at room : ℕ) → at + 2 * w.length + 1 ≤ room
        → Syllabled lengths (take c.0 reading) (stretch s w) × (at + length (join (syllable_break ∷ []) (syllables (lengths_in lengths (take c.0 reading)) (stretch s w))) ≤ room)
    split_needs at room k =
        rw (stretch_letters s w)
        (read_as.parts, omega (arith, letters_long, read_room lengths reading (letters_of s w) c.0 (omega (arith, letters_long, h.some)) read_as))

    pub split_shown : {at r : ℕ} {o p : List ℕ} → Puts at (join (syllable_break ∷ []) (syllables (lengths_in lengths (take c.0 reading)) (stretch s w))) o p r
        → Puts at (shown_as lengths reading w.kind (letters_of s w)) o p r
    split_shown f = rw e (rw (stretch_letters s w) at f)

  -- A word takes at most one byte more than twice its length.
  pub shown_length : length (shown_as lengths reading w.kind (letters_of s w)) ≤ 2 * w.length + 1
  shown_length = by w.kind h.fits
    where
      by : (k : Kind) → KindFits lengths reading (letters_of s w) k → length (shown_as lengths reading k (letters_of s w)) ≤ 2 * w.length + 1
      by (Split c) f = omega (arith, letters_long, read_room lengths reading (letters_of s w) c.0 (omega (arith, letters_long, h.some)) f)
      by None f = omega (arith, letters_long, h.some, bracketed_length 40 41 (letters_of s w))
      by Several f = omega (arith, letters_long, h.some, bracketed_length 91 93 (letters_of s w))

  pub bracket_room : (at room : ℕ) → at + 2 * w.length + 1 ≤ room → at + length (stretch s w) + 2 ≤ room
  bracket_room at room k = rw (stretch_letters s w) (omega (arith, letters_long, h.some))

  pub none_shown : w.kind ≡ None → {at r : ℕ} {o p : List ℕ} → Puts at (40 ∷ (stretch s w ++ (41 ∷ []))) o p r → Puts at (shown_as lengths reading w.kind (letters_of s w)) o p r
  none_shown e f = rw e (rw (stretch_letters s w) at f)

  pub several_shown : w.kind ≡ Several → {at r : ℕ} {o p : List ℕ} → Puts at (91 ∷ (stretch s w ++ (93 ∷ []))) o p r
      → Puts at (shown_as lengths reading w.kind (letters_of s w)) o p r
  several_shown e f = rw e (rw (stretch_letters s w) at f)
