-- The table of Turkish letters is what its class sheet gives. The sheet stands here byte for byte, and is taken in by computation.
use Rattle.std.specs.Prelude.{◌≡◌, refl, List, [], ◌∷◌, ◌++◌, ℕ, Ok}
use Rattle.code.specs.Definitions.ClassSheets.{ranges_of, malformed, takes_sign, refused18, refused19, all_bytes, takers, refused20, class_by, classes_of, taken_classes}
use Rattle.code.specs.Definitions.Lists.{any, every, tabulate}
use Rattle.code.specs.Definitions.Sheets.{limits, body, records, fields, grid, bad_bytes}
use Rattle.turkish_letters.specs.Letters.{turkish_classes}

-- sheets/turkish.classes
abbrev pub turkish_class_sheet : List ℕ
turkish_class_sheet =
    (52 ∷ 49 ∷ 44 ∷ 52 ∷ 49 ∷ 44 ∷ 48 ∷ 13 ∷ 10 ∷ [])
    ++ (52 ∷ 50 ∷ 44 ∷ 52 ∷ 52 ∷ 44 ∷ 49 ∷ 13 ∷ 10 ∷ [])
    ++ (52 ∷ 53 ∷ 44 ∷ 52 ∷ 53 ∷ 44 ∷ 48 ∷ 13 ∷ 10 ∷ [])
    ++ (52 ∷ 54 ∷ 44 ∷ 52 ∷ 56 ∷ 44 ∷ 49 ∷ 13 ∷ 10 ∷ [])
    ++ (52 ∷ 57 ∷ 44 ∷ 52 ∷ 57 ∷ 44 ∷ 48 ∷ 13 ∷ 10 ∷ [])
    ++ (52 ∷ 65 ∷ 44 ∷ 52 ∷ 69 ∷ 44 ∷ 49 ∷ 13 ∷ 10 ∷ [])
    ++ (52 ∷ 70 ∷ 44 ∷ 52 ∷ 70 ∷ 44 ∷ 48 ∷ 13 ∷ 10 ∷ [])
    ++ (53 ∷ 48 ∷ 44 ∷ 53 ∷ 48 ∷ 44 ∷ 49 ∷ 13 ∷ 10 ∷ [])
    ++ (53 ∷ 50 ∷ 44 ∷ 53 ∷ 52 ∷ 44 ∷ 49 ∷ 13 ∷ 10 ∷ [])
    ++ (53 ∷ 53 ∷ 44 ∷ 53 ∷ 53 ∷ 44 ∷ 48 ∷ 13 ∷ 10 ∷ [])
    ++ (53 ∷ 54 ∷ 44 ∷ 53 ∷ 54 ∷ 44 ∷ 49 ∷ 13 ∷ 10 ∷ [])
    ++ (53 ∷ 57 ∷ 44 ∷ 53 ∷ 65 ∷ 44 ∷ 49 ∷ 13 ∷ 10 ∷ [])
    ++ (54 ∷ 49 ∷ 44 ∷ 54 ∷ 49 ∷ 44 ∷ 48 ∷ 13 ∷ 10 ∷ [])
    ++ (54 ∷ 50 ∷ 44 ∷ 54 ∷ 52 ∷ 44 ∷ 49 ∷ 13 ∷ 10 ∷ [])
    ++ (54 ∷ 53 ∷ 44 ∷ 54 ∷ 53 ∷ 44 ∷ 48 ∷ 13 ∷ 10 ∷ [])
    ++ (54 ∷ 54 ∷ 44 ∷ 54 ∷ 56 ∷ 44 ∷ 49 ∷ 13 ∷ 10 ∷ [])
    ++ (54 ∷ 57 ∷ 44 ∷ 54 ∷ 57 ∷ 44 ∷ 48 ∷ 13 ∷ 10 ∷ [])
    ++ (54 ∷ 65 ∷ 44 ∷ 54 ∷ 69 ∷ 44 ∷ 49 ∷ 13 ∷ 10 ∷ [])
    ++ (54 ∷ 70 ∷ 44 ∷ 54 ∷ 70 ∷ 44 ∷ 48 ∷ 13 ∷ 10 ∷ [])
    ++ (55 ∷ 48 ∷ 44 ∷ 55 ∷ 48 ∷ 44 ∷ 49 ∷ 13 ∷ 10 ∷ [])
    ++ (55 ∷ 50 ∷ 44 ∷ 55 ∷ 52 ∷ 44 ∷ 49 ∷ 13 ∷ 10 ∷ [])
    ++ (55 ∷ 53 ∷ 44 ∷ 55 ∷ 53 ∷ 44 ∷ 48 ∷ 13 ∷ 10 ∷ [])
    ++ (55 ∷ 54 ∷ 44 ∷ 55 ∷ 54 ∷ 44 ∷ 49 ∷ 13 ∷ 10 ∷ [])
    ++ (55 ∷ 57 ∷ 44 ∷ 55 ∷ 65 ∷ 44 ∷ 49 ∷ 13 ∷ 10 ∷ [])
    ++ (67 ∷ 55 ∷ 44 ∷ 67 ∷ 55 ∷ 44 ∷ 49 ∷ 13 ∷ 10 ∷ [])
    ++ (68 ∷ 48 ∷ 44 ∷ 68 ∷ 48 ∷ 44 ∷ 49 ∷ 13 ∷ 10 ∷ [])
    ++ (68 ∷ 54 ∷ 44 ∷ 68 ∷ 54 ∷ 44 ∷ 48 ∷ 13 ∷ 10 ∷ [])
    ++ (68 ∷ 67 ∷ 44 ∷ 68 ∷ 68 ∷ 44 ∷ 48 ∷ 13 ∷ 10 ∷ [])
    ++ (68 ∷ 69 ∷ 44 ∷ 68 ∷ 69 ∷ 44 ∷ 49 ∷ 13 ∷ 10 ∷ [])
    ++ (69 ∷ 55 ∷ 44 ∷ 69 ∷ 55 ∷ 44 ∷ 49 ∷ 13 ∷ 10 ∷ [])
    ++ (70 ∷ 48 ∷ 44 ∷ 70 ∷ 48 ∷ 44 ∷ 49 ∷ 13 ∷ 10 ∷ [])
    ++ (70 ∷ 54 ∷ 44 ∷ 70 ∷ 54 ∷ 44 ∷ 48 ∷ 13 ∷ 10 ∷ [])
    ++ (70 ∷ 67 ∷ 44 ∷ 70 ∷ 68 ∷ 44 ∷ 48 ∷ 13 ∷ 10 ∷ [])
    ++ (70 ∷ 69 ∷ 44 ∷ 70 ∷ 69 ∷ 44 ∷ 49 ∷ 13 ∷ 10 ∷ [])

-- 02, request 5: "The Turkish sheet must give CR 4's results": it gives the same table.
pub turkish_given : taken_classes limits turkish_class_sheet ≡ record { answer = Ok tt; classes = record { entries = turkish_classes } }
unfolding taken_classes ranges_of malformed takes_sign refused18 refused19 all_bytes takers refused20 class_by classes_of any every tabulate body records fields grid bad_bytes turkish_classes
turkish_given = refl
