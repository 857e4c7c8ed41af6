-- How long a printed result is at most: a byte for each symbol, four for each word number, and 35 besides.
use mathlib.Core.Path.{◌≡◌}
use mathlib.Core.List.{List, [], ◌∷◌, ◌++◌, map}
use Prim.Native.Nat.{ℕ, suc, ◌+◌, ◌*◌, ◌^◌, ◌≤◌, ◌<◌}
use native.Mathlib.Omega.{arith}
use lib.ListN.{length, get_or, length-append}
use Rattle.code.specs.Definitions.Lists.{sum, join}
use Rattle.csv_records.specs.Join.{length-join}
use Rattle.printing.specs.Printed.{decimal, record_of}
use Rattle.printing.proofs.Laws.Decimals.{places_most, length-decimal}

-- the length of a record of two fields
pub length_pair : (f g : List ℕ) → length (record_of (f ∷ g ∷ [])) ≡ length f + length g + 3
unfolding join
length_pair f g =
    omega (arith, length-append (f ++ (44 ∷ g)) (13 ∷ 10 ∷ []), length-append f (44 ∷ g))

-- a byte has at most three digits
pub decimal_byte : (n : ℕ) → n < 256 → length (decimal n) ≤ 3
decimal_byte n h = rw (length-decimal n) (places_most n 3 (omega arith) (omega arith))

pub decimal_word : (n : ℕ) → n < 2 ^ 64 → length (decimal n) ≤ 20
decimal_word n h = rw (length-decimal n) (places_most n 20 (omega arith) (omega arith))

-- the numbers of a reading, each with a comma
numbers_sum : (s : List ℕ) → ((k : ℕ) → get_or s k 0 < 256) → sum (map (λ (f : List ℕ). length f + 1) (map decimal s)) ≤ 4 * length s
unfolding sum
numbers_sum [] b = omega arith
numbers_sum (n ∷ s) b = omega (arith, decimal_byte n (b 0), numbers_sum s (λ k. b (suc k)))

pub length_numbers : (s : List ℕ) → ((k : ℕ) → get_or s k 0 < 256) → length (join (44 ∷ []) (map decimal s)) ≤ 4 * length s
unfolding join
length_numbers [] b = omega arith
length_numbers (n ∷ s) b = omega (arith, length-join (44 ∷ []) (map decimal (n ∷ s)) (omega arith), numbers_sum (n ∷ s) b)
