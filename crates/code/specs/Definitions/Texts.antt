-- What splitting a text into syllables means: its words are the longest runs of letters, and each is shown by its readings.
use Rattle.std.specs.Prelude.{◌≡◌, Bool, true, false, List, [], ◌∷◌, ◌++◌, map, ℕ, ltb, length, take, drop, get_or, if◌then◌else◌}
use Rattle.code.specs.Definitions.Lists.{join}
use Rattle.code.specs.Definitions.Tables.{Table, word}
use Rattle.code.specs.Definitions.Readings.{NoReading, OnlyReading, TwoReadings}

-- 02, request 4: "A table of 256 entries gives each byte's class: vowel 0, consonant 1, or other". Other is 16, which no symbol is; what is below it is the
-- symbol of a letter.
abbrev pub other : ℕ
other = 16

module _ (classes : List ℕ) where
  abbrev pub class_of : ℕ → ℕ
  class_of b = get_or classes b 0

  abbrev pub is_letter : ℕ → Bool
  is_letter b = ltb (class_of b) other

  -- 02, request 4: "A word is a longest run of these letters": the letters that a text begins with, and what comes behind them.
  unfoldable pub run : List ℕ → List ℕ
  run [] = []
  run (a ∷ s) = if is_letter a then a ∷ run s else []

  unfoldable pub rest : List ℕ → List ℕ
  rest [] = []
  rest (a ∷ s) = if is_letter a then rest s else a ∷ s

  -- "read by the code table given": a word as a message
  abbrev pub symbols_in : List ℕ → List ℕ
  symbols_in w = map class_of w

-- "B7 (hexadecimal)", "round brackets", "square brackets": ( and ) are 40 and 41, [ and ] are 91 and 93.
abbrev pub syllable_break : ℕ
syllable_break = 183

-- The bytes that are put into a text.
abbrev pub signs : List ℕ
signs = syllable_break ∷ 40 ∷ 41 ∷ 91 ∷ 93 ∷ []

-- The syllables of a word, by their lengths.
unfoldable pub syllables : List ℕ → List ℕ → List (List ℕ)
syllables [] w = []
syllables (n ∷ l) w = take n w ∷ syllables l (drop n w)

module _ (t : Table) where
  -- The lengths of the words of a reading.
  abbrev pub lengths_of : List ℕ → List ℕ
  lengths_of r = map (λ x. length (word t x)) r

  module _ (classes : List ℕ) where
    -- 02, request 4: "A word with one reading gets byte B7 (hexadecimal) between syllables; one without a reading stands in round brackets; one with several
    -- stands in square brackets."
    pub data Shows (w : List ℕ) : List ℕ → Type 0 where
      split : {r : List ℕ} → OnlyReading t (symbols_in classes w) r → Shows w (join (syllable_break ∷ []) (syllables (lengths_of r) w))
      none : NoReading t (symbols_in classes w) → Shows w (40 ∷ (w ++ (41 ∷ [])))
      several : TwoReadings t (symbols_in classes w) → Shows w (91 ∷ (w ++ (93 ∷ [])))

    -- The output of a text. 02, request 4: "Other bytes are copied." What comes behind a run begins with no letter, so two words never touch.
    pub data Splits : List ℕ → List ℕ → Type 0 where
      end : Splits [] []
      copied : {a : ℕ} {s o : List ℕ} → is_letter classes a ≡ false → Splits s o → Splits (a ∷ s) (a ∷ o)
      shown : {a : ℕ} {s p o : List ℕ} → is_letter classes a ≡ true → Shows (run classes (a ∷ s)) p → Splits (rest classes (a ∷ s)) o → Splits (a ∷ s) (p ++ o)
