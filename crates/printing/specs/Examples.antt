-- Printed results in full, each equal to its definition by computation.
use Rattle.std.specs.Prelude.{◌≡◌, refl, [], ◌∷◌, ℕ, Err, Ok}
use Rattle.code.specs.declared.SymbolCount.{SymbolCount}
use Rattle.code.specs.declared.WordCount.{WordCount}
use Rattle.code.specs.declared.Refusal.TheVariants.{RecordCount, NoReading}
use Rattle.code.specs.declared.Verdict.TheVariants.{Ambiguous as Two-ways, Finite, Unbounded}
use Rattle.code.specs.Definitions.Lists.{join}
use Rattle.csv_records.specs.Digits.{digit_of}
use Rattle.printing.specs.Printed.{places, printed}

abbrev symbols : ℕ → SymbolCount
symbols n = record { 0 = n }

abbrev words : ℕ → WordCount
words n = record { 0 = n }

-- 01, code T: `ambiguous,010`, `0,1` and `2,0`, each with its CR LF
code_t_lem : printed (Ok (Two-ways (symbols 3) (words 2) (words 2))) (0 ∷ 1 ∷ 0 ∷ []) (0 ∷ 1 ∷ []) (2 ∷ 0 ∷ [])
    ≡ 97 ∷ 109 ∷ 98 ∷ 105 ∷ 103 ∷ 117 ∷ 111 ∷ 117 ∷ 115 ∷ 44 ∷ 48 ∷ 49 ∷ 48 ∷ 13 ∷ 10
    ∷ 48 ∷ 44 ∷ 49 ∷ 13 ∷ 10
    ∷ 50 ∷ 44 ∷ 48 ∷ 13 ∷ 10
    ∷ []
unfolding join digit_of places
code_t_lem = refl

-- `ambiguous,A`, `9` and `10,31`: the digit of a symbol is a capital, a word number stands in decimal
capitals : printed (Ok (Two-ways (symbols 1) (words 1) (words 2))) (10 ∷ []) (9 ∷ []) (10 ∷ 31 ∷ [])
    ≡ 97 ∷ 109 ∷ 98 ∷ 105 ∷ 103 ∷ 117 ∷ 111 ∷ 117 ∷ 115 ∷ 44 ∷ 65 ∷ 13 ∷ 10
    ∷ 57 ∷ 13 ∷ 10
    ∷ 49 ∷ 48 ∷ 44 ∷ 51 ∷ 49 ∷ 13 ∷ 10
    ∷ []
unfolding join digit_of places
capitals = refl

-- `decipherable,4`
delay_4 : printed (Ok (Finite (symbols 4))) [] [] []
    ≡ 100 ∷ 101 ∷ 99 ∷ 105 ∷ 112 ∷ 104 ∷ 101 ∷ 114 ∷ 97 ∷ 98 ∷ 108 ∷ 101 ∷ 44 ∷ 52 ∷ 13 ∷ 10 ∷ []
unfolding join places
delay_4 = refl

-- `decipherable,8257`, the greatest delay of 01
delay_8257 : printed (Ok (Finite (symbols 8257))) [] [] []
    ≡ 100 ∷ 101 ∷ 99 ∷ 105 ∷ 112 ∷ 104 ∷ 101 ∷ 114 ∷ 97 ∷ 98 ∷ 108 ∷ 101 ∷ 44 ∷ 56 ∷ 50 ∷ 53 ∷ 55 ∷ 13 ∷ 10 ∷ []
unfolding join places
delay_8257 = refl

-- `decipherable,unbounded`
without_bound_lem : printed (Ok Unbounded) [] [] []
    ≡ 100 ∷ 101 ∷ 99 ∷ 105 ∷ 112 ∷ 104 ∷ 101 ∷ 114 ∷ 97 ∷ 98 ∷ 108 ∷ 101 ∷ 44
    ∷ 117 ∷ 110 ∷ 98 ∷ 111 ∷ 117 ∷ 110 ∷ 100 ∷ 101 ∷ 100 ∷ 13 ∷ 10 ∷ []
unfolding join
without_bound_lem = refl

-- `refused,3` and `refused,14`
refused_3 : printed (Err RecordCount) [] [] [] ≡ 114 ∷ 101 ∷ 102 ∷ 117 ∷ 115 ∷ 101 ∷ 100 ∷ 44 ∷ 51 ∷ 13 ∷ 10 ∷ []
unfolding join places
refused_3 = refl

refused_14 : printed (Err NoReading) [] [] [] ≡ 114 ∷ 101 ∷ 102 ∷ 117 ∷ 115 ∷ 101 ∷ 100 ∷ 44 ∷ 49 ∷ 52 ∷ 13 ∷ 10 ∷ []
unfolding join places
refused_14 = refl
