-- The printed result as bytes, for every verdict and every refusal.
use Rattle.std.specs.Prelude.{List, [], ◌∷◌, ◌++◌, map, ℕ, zero, suc, ◌/◌, ltb, if◌then◌else◌, Err, Ok, Result}
use Rattle.io.specs.Digits.{last_digits}
use Rattle.code.specs.declared.Verdict.TheVariants.{Ambiguous as Two-ways, Finite, Unbounded}
use Rattle.code.specs.declared.Refusal.{Refusal}
use Rattle.code.specs.declared.Verdict.{Verdict}
use Rattle.code.specs.Definitions.Lists.{join}
use Rattle.code.specs.Definitions.Answers.{refusal_number}
use Rattle.csv_records.specs.Digits.{digit_of}

-- How many decimal digits n has: one more for each division by ten that leaves something, and k divisions are tried. Decimals shows that n divisions
-- are enough, and that no fewer digits hold n.
unfoldable pub places_within : ℕ → ℕ → ℕ
places_within zero n = 1
places_within (suc k) n =
    let rest = places_within k (n / 10) in
    if ltb n 10 then 1 else suc rest

unfoldable pub places : ℕ → ℕ
unfolding places_within
places n = places_within n n

-- n in decimal, without leading zeros
abbrev pub decimal : ℕ → List ℕ
decimal n = last_digits 10 (places n) n

-- 01: "records ended by CR LF", their fields parted by commas (RFC 4180)
abbrev pub record_of : List (List ℕ) → List ℕ
record_of fields = join (44 ∷ []) fields ++ (13 ∷ 10 ∷ [])

-- 01: "First field: `ambiguous`, `decipherable` or `refused`." In bytes, with `unbounded`:
abbrev pub ambiguous : List ℕ
ambiguous = 97 ∷ 109 ∷ 98 ∷ 105 ∷ 103 ∷ 117 ∷ 111 ∷ 117 ∷ 115 ∷ []

abbrev pub decipherable : List ℕ
decipherable = 100 ∷ 101 ∷ 99 ∷ 105 ∷ 112 ∷ 104 ∷ 101 ∷ 114 ∷ 97 ∷ 98 ∷ 108 ∷ 101 ∷ []

abbrev pub refused : List ℕ
refused = 114 ∷ 101 ∷ 102 ∷ 117 ∷ 115 ∷ 101 ∷ 100 ∷ []

abbrev pub unbounded : List ℕ
unbounded = 117 ∷ 110 ∷ 98 ∷ 111 ∷ 117 ∷ 110 ∷ 100 ∷ 101 ∷ 100 ∷ []

-- "refused", the number, and CR LF
abbrev pub refused_record : Refusal → List ℕ
refused_record r = record_of (refused ∷ decimal (refusal_number r) ∷ [])

-- 01: "Second: the message in digits, the delay or `unbounded`, or the refusal number. After `ambiguous` come two records, each a reading's word numbers
-- in decimal, parted by commas." Here m is the message and s, u its readings.
abbrev pub printed : Result Verdict Refusal → (m s u : List ℕ) → List ℕ
printed (Ok (Two-ways a b c)) m s u = record_of (ambiguous ∷ map digit_of m ∷ []) ++ record_of (map decimal s) ++ record_of (map decimal u)
printed (Ok (Finite d)) m s u = record_of (decipherable ∷ decimal d.0 ∷ [])
printed (Ok Unbounded) m s u = record_of (decipherable ∷ unbounded ∷ [])
printed (Err r) m s u = refused_record r
