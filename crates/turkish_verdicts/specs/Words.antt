-- Words split by the twelve types, from the definitions alone: saat has one reading, kongre has two, bb has none. All readings of a word are listed by computation.
use Rattle.std.specs.Prelude.{◌≡◌, refl, true, List, [], ◌∷◌, ◌++◌, ℕ}
use Rattle.code.specs.Definitions.Lists.{any, every, tabulate, join}
use Rattle.code.specs.Definitions.Tables.{Table, table_of}
use Rattle.code.specs.Definitions.Texts.{symbols_in, syllable_break, syllables, lengths_of, Shows, split, none, several, Splits}
use Rattle.code.specs.Laws.Readings.{first_two_readings}
use Rattle.code.specs.Laws.Sequences.{Plain}
use Rattle.cases.specs.Cases.{is_non_empty, non_empty}
use Rattle.cases.specs.Enumeration.{readings, reading_in}
use Rattle.cases.specs.Members.{empty, empty_none}
use Rattle.cases.specs.Readings.{only_of, first_two_of, only_means, first_two_means}
use Rattle.turkish_letters.specs.Letters.{turkish_classes}
use Rattle.text_theory.specs.Messages.{word_splits}
use Rattle.turkish.specs.Types.{padded, code_of_types}
use Rattle.turkish_verdicts.specs.Cases.{twelve}

-- by the list of all readings of the letters w
module _ {t : Table} (plain : Plain t) (classes w : List ℕ) where
  none_shows : empty (readings t (symbols_in classes w)) ≡ true → Shows t classes w (40 ∷ (w ++ (41 ∷ [])))
  none_shows e = none (λ s r. empty_none e (reading_in t plain.some r))

  one_shows : (r : List ℕ) → only_of (readings t (symbols_in classes w)) r ≡ true → Shows t classes w (join (syllable_break ∷ []) (syllables (lengths_of t r) w))
  one_shows r e = split (only_means plain (symbols_in classes w) r e)

  two_shows : (r u : List ℕ) → first_two_of (readings t (symbols_in classes w)) r u ≡ true → Shows t classes w (91 ∷ (w ++ (93 ∷ [])))
  two_shows r u e = several (first_two_readings (first_two_means plain (symbols_in classes w) r u e))

plain_twelve : Plain (table_of twelve)
unfolding is_non_empty tabulate padded code_of_types
plain_twelve = record { some = non_empty (table_of twelve) refl; free = λ x y z. refl }

-- saat: sa·at
pub saat_split : Splits (table_of twelve) turkish_classes (115 ∷ 97 ∷ 97 ∷ 116 ∷ []) (115 ∷ 97 ∷ 183 ∷ 97 ∷ 116 ∷ [])
unfolding readings only_of tabulate padded code_of_types turkish_classes any every join syllables
saat_split = word_splits turkish_classes 115 (97 ∷ 97 ∷ 116 ∷ []) _ refl (one_shows plain_twelve turkish_classes (115 ∷ 97 ∷ 97 ∷ 116 ∷ []) (1 ∷ 2 ∷ []) refl)

-- kongre: kon·gre and kong·re
pub kongre_split : Splits (table_of twelve) turkish_classes (107 ∷ 111 ∷ 110 ∷ 103 ∷ 114 ∷ 101 ∷ []) (91 ∷ 107 ∷ 111 ∷ 110 ∷ 103 ∷ 114 ∷ 101 ∷ 93 ∷ [])
unfolding readings first_two_of tabulate padded code_of_types turkish_classes any every
kongre_split =
    word_splits turkish_classes 107 (111 ∷ 110 ∷ 103 ∷ 114 ∷ 101 ∷ []) _ refl
    (two_shows plain_twelve turkish_classes (107 ∷ 111 ∷ 110 ∷ 103 ∷ 114 ∷ 101 ∷ []) (3 ∷ 6 ∷ []) (5 ∷ 1 ∷ []) refl)

-- bb has no vowel.
pub bb_split : Splits (table_of twelve) turkish_classes (98 ∷ 98 ∷ []) (40 ∷ 98 ∷ 98 ∷ 41 ∷ [])
unfolding readings empty tabulate padded code_of_types turkish_classes any every
bb_split = word_splits turkish_classes 98 (98 ∷ []) _ refl (none_shows plain_twelve turkish_classes (98 ∷ 98 ∷ []) refl)
