-- What showing a word by its record needs and writes.
use Rattle.std.specs.Prelude.{◌≡◌, List, [], ◌∷◌, ◌++◌, ℕ, ◌+◌, ◌≤◌, ◌<◌, length, take, drop, get_or}
use Rattle.code.specs.Definitions.Lists.{sum, join}
use Rattle.code.specs.Definitions.Texts.{syllable_break, syllables}
use Rattle.text_syllables.specs.declared.Kind.{Kind}
use Rattle.text_syllables.specs.declared.Kind.TheVariants.{Split, None, Several}
use Rattle.text_syllables.specs.declared.TextWord.{TextWord}
use Rattle.text_syllables.specs.Lengths.{lengths_in}

-- the letters of a word of the text s
abbrev pub letters_of : List ℕ → TextWord → List ℕ
letters_of s w = take w.length (drop w.offset s)

-- the bytes that show the letters w of a word of this kind
abbrev pub shown_as : (lengths reading : List ℕ) → Kind → List ℕ → List ℕ
shown_as lengths reading (Split c) w = join (syllable_break ∷ []) (syllables (lengths_in lengths (take c.0 reading)) w)
shown_as lengths reading None w = 40 ∷ (w ++ (41 ∷ []))
shown_as lengths reading Several w = 91 ∷ (w ++ (93 ∷ []))

-- Every word of the reading has a length, and the lengths make up the letters.
pub record Syllabled (lengths reading letters : List ℕ) : Type 0 where
  pub known : (i : ℕ) → i < length reading → get_or reading i 0 < length lengths
  pub whole : length letters ≡ sum (lengths_in lengths reading)

-- Where a word is split, its reading stands in the buffer, and has no more words than the word has letters.
pub record ReadAs (lengths reading letters : List ℕ) (n : ℕ) : Type 0 where
  pub stands : n ≤ length reading
  pub most : n ≤ length letters
  pub parts : Syllabled lengths (take n reading) letters

abbrev pub KindFits : (lengths reading letters : List ℕ) → Kind → Type 0
KindFits lengths reading letters (Split c) = ReadAs lengths reading letters c.0
KindFits lengths reading letters None = Unit
KindFits lengths reading letters Several = Unit

-- A word that lies in the text s, and whose kind fits.
pub record Showable (w : TextWord) (lengths reading s : List ℕ) : Type 0 where
  pub within : w.offset + w.length ≤ length s
  pub some : 1 ≤ w.length
  pub fits : KindFits lengths reading (letters_of s w) w.kind
