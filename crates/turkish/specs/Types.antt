-- The twelve syllable types of Turkish, the two rules that say which never follows which, and the code that types and rules make.
use Rattle.std.specs.Prelude.{Bool, ◌&&◌, ◌||◌, List, [], ◌∷◌, map, ℕ, ◌-◌, eqb, ltb, length, get_or, replicate, if◌then◌else◌}
use Rattle.code.specs.declared.Word.{Word}
use Rattle.code.specs.declared.Row.{Row}
use Rattle.code.specs.declared.Code.{Code}
use Rattle.code.specs.declared.Limits.{Limits}
use Rattle.code.specs.Definitions.Lists.{tabulate}
use Rattle.turkish.specs.declared.TypeRow.{TypeRow}

-- Source 000, table 1: "0 denotes vowel, 1 denotes consonant"
abbrev pub vowel : ℕ
vowel = 0

abbrev pub consonant : ℕ
consonant = 1

-- The types A to L of that table
abbrev pub types : List (List ℕ)
types =
    (0 ∷ [])
    ∷ (1 ∷ 0 ∷ [])
    ∷ (0 ∷ 1 ∷ [])
    ∷ (1 ∷ 0 ∷ 1 ∷ [])
    ∷ (0 ∷ 1 ∷ 1 ∷ [])
    ∷ (1 ∷ 0 ∷ 1 ∷ 1 ∷ [])
    ∷ (1 ∷ 1 ∷ 0 ∷ [])
    ∷ (1 ∷ 1 ∷ 0 ∷ 1 ∷ [])
    ∷ (1 ∷ 1 ∷ 1 ∷ 0 ∷ [])
    ∷ (1 ∷ 1 ∷ 1 ∷ 0 ∷ 1 ∷ [])
    ∷ (1 ∷ 1 ∷ 0 ∷ 1 ∷ 1 ∷ [])
    ∷ (1 ∷ 0 ∷ 1 ∷ 1 ∷ 1 ∷ [])
    ∷ []

-- Symbol k of the type w is a; past its end there is none.
abbrev pub stands_at : List ℕ → ℕ → ℕ → Bool
stands_at w k a = ltb k (length w) && eqb (get_or w k 0) a

abbrev pub vowel_first : List ℕ → Bool
vowel_first w = stands_at w 0 vowel

abbrev pub two_consonants_first : List ℕ → Bool
two_consonants_first w = stands_at w 0 consonant && stands_at w 1 consonant

abbrev pub vowel_last : List ℕ → Bool
vowel_last w = stands_at w (length w - 1) vowel

abbrev pub consonant_last : List ℕ → Bool
consonant_last w = stands_at w (length w - 1) consonant

-- 02, request 3: "no vowel-first type after a consonant-last one": x never comes immediately after y.
abbrev pub vowel_rule : (x y : List ℕ) → Bool
vowel_rule x y = vowel_first x && consonant_last y

-- "no type with two or more consonants first after a vowel-last one"
abbrev pub consonant_rule : (x y : List ℕ) → Bool
consonant_rule x y = two_consonants_first x && vowel_last y

-- "where one of them forbids"
abbrev pub forbids : (x y : List ℕ) → Bool
forbids x y = vowel_rule x y || consonant_rule x y

-- "0 exactly where one of them forbids"
abbrev pub entry_for : (x y : List ℕ) → ℕ
entry_for x y = if forbids x y then 0 else 1

-- The follow matrix of some types. 01: "The entry in row X, column Y is 1 if X may come immediately after Y, else 0".
abbrev pub matrix : List (List ℕ) → List (List ℕ)
matrix ts = map (λ x. map (entry_for x) ts) ts

-- a row of the constant matrix
abbrev pub row_of_types : List ℕ → TypeRow
row_of_types r = record { 0 = r }

-- An array of n entries: those of a list, and then the entry d.
unfoldable pub padded : {A : Type 0} → A → List A → ℕ → List A
padded d l n = tabulate (λ k. get_or l k d) n

module _ (l : Limits) where
  abbrev pub word_for : List ℕ → Word
  word_for w = record { symbols = padded 0 w l.symbols; len = length w }

  abbrev pub row_for : List ℕ → Row
  row_for r = record { entries = padded 0 r l.words }

  -- The code of some types, numbered as in their list. 02, request 3: "every type allowed to begin"
  unfoldable pub code_of_types : List (List ℕ) → Code
  code_of_types ts = record {
    words = padded (word_for []) (map word_for ts) l.words;
    rows = padded (row_for []) (map row_for (matrix ts)) l.words;
    begins = padded 0 (replicate (length ts) 1) l.words;
    count = length ts;
  }
