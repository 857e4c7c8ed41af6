-- The letters of Turkish text in ISO 8859-9, and the class of each byte by them.
use Rattle.std.specs.Prelude.{Bool, List, [], ◌∷◌, ◌++◌, map, ℕ, ◌-◌, eqb, if◌then◌else◌}
use Rattle.code.specs.Definitions.Lists.{any, tabulate}
use Rattle.code.specs.Definitions.Texts.{other}

-- 02, request 4: "The vowels are a, e, ı, i, o, ö, u, ü"
abbrev pub vowels : List ℕ
vowels = 97 ∷ 101 ∷ 253 ∷ 105 ∷ 111 ∷ 246 ∷ 117 ∷ 252 ∷ []

-- "the consonants are b, c, ç, d, f, g, ğ, h, j, k, l, m, n, p, r, s, ş, t, v, y, z"
abbrev pub consonants : List ℕ
consonants =
    98 ∷ 99 ∷ 231 ∷ 100 ∷ 102 ∷ 103 ∷ 240 ∷ 104 ∷ 106 ∷ 107 ∷ 108 ∷ 109 ∷ 110 ∷ 112 ∷ 114 ∷ 115 ∷ 254 ∷ 116 ∷ 118 ∷ 121 ∷ 122 ∷ []

-- The capital of a letter stands 32 before it, but that of ı (253) is I (73), and that of i (105) is İ (221).
abbrev pub capital : ℕ → ℕ
capital b = if eqb b 253 then 73 else if eqb b 105 then 221 else b - 32

-- "capitals as small letters"
abbrev pub is_of : List ℕ → ℕ → Bool
is_of letters b = any (eqb b) (letters ++ map capital letters)

-- "each byte's class: vowel 0, consonant 1, or other"
abbrev pub turkish_class : ℕ → ℕ
turkish_class b = if is_of vowels b then 0 else if is_of consonants b then 1 else other

unfoldable pub turkish_classes : List ℕ
turkish_classes = tabulate turkish_class 256
