-- The field of a word number: one decimal digit, or two without a leading zero. It is read back as the number.
use Rattle.std.specs.Prelude.{◌≡◌, ltb, length, if◌then◌else◌}
use Rattle.std.proofs.Math.Bool.{true}
use mathlib.Core.List.{List, [], ◌∷◌}
use Prim.Native.Nat.{ℕ, ◌+◌, ◌/◌, ◌%◌, ◌≤◌, ◌<◌}
use Rattle.std.proofs.Math.Decide.{dec_lt}
use Rattle.std.proofs.Common.{arith, lt-ltb, le-ltb, le-leb, ne_eqb}
use Rattle.code.specs.Definitions.Lists.{every}
use Rattle.code.specs.Definitions.Sheets.{is_digit}
use Rattle.code.specs.Definitions.BanLists.{is_decimal, decimal, number_of, is_number}

-- 02, request 2: "decimal word numbers without leading zeros"
unfoldable pub number_field : ℕ → List ℕ
number_field v = if ltb v 10 then (v + 48) ∷ [] else (v / 10 + 48) ∷ (v % 10 + 48) ∷ []

one_digit : (v : ℕ) → v < 10 → number_field v ≡ (v + 48) ∷ []
unfolding number_field
one_digit v h = rw (lt-ltb v 10 h)

two_digits : (v : ℕ) → 10 ≤ v → number_field v ≡ (v / 10 + 48) ∷ (v % 10 + 48) ∷ []
unfolding number_field
two_digits v h = rw (le-ltb v 10 h)

decimal_digit : (d : ℕ) → d < 10 → is_decimal (d + 48) ≡ true
decimal_digit d h = rw (le-leb 48 (d + 48) (omega arith), le-leb (d + 48) 57 (omega arith))

digit_digit : (d : ℕ) → d < 10 → is_digit (d + 48) ≡ true
digit_digit d h = rw (decimal_digit d h)

module _ (v : ℕ) (small : v < 100) where
  by_size : (P : List ℕ → Type 0) → (v < 10 → P ((v + 48) ∷ [])) → (10 ≤ v → P ((v / 10 + 48) ∷ (v % 10 + 48) ∷ [])) → P (number_field v)
  by_size P a b = by (dec_lt v 10)
    where
      by : Dec (v < 10) → P (number_field v)
      by (yes h) = rw (one_digit v h) (a h)
      by (no h) = rw (two_digits v (omega arith)) (b (omega arith))

  -- The number is read back.
  pub number_back : number_of (number_field v) ≡ v
  unfolding number_of decimal
  number_back = by_size (λ f. number_of f ≡ v) (λ h. omega arith) (λ h. omega arith)

  pub number_digits : every is_digit (number_field v) ≡ true
  unfolding every
  number_digits = by_size (λ f. every is_digit f ≡ true) (λ h. rw (digit_digit v h)) (λ h. rw (digit_digit (v / 10) (omega arith), digit_digit (v % 10) (omega arith)))

  pub number_short : length (number_field v) ≤ 2
  number_short = by_size (λ f. length f ≤ 2) (λ h. omega arith) (λ h. omega arith)

  -- It is the number of a word, where there are more than v words.
  pub number_known : (n : ℕ) → v < n → is_number n (number_field v) ≡ true
  unfolding is_number every
  number_known n h = by_size Good one two number_back
    where
      Good : List ℕ → Type 0
      Good f = number_of f ≡ v → is_number n f ≡ true

      one : v < 10 → Good ((v + 48) ∷ [])
      one k e = rw (decimal_digit v k, e) (lt-ltb v n h)

      two : 10 ≤ v → Good ((v / 10 + 48) ∷ (v % 10 + 48) ∷ [])
      two k e = rw (ne_eqb (v / 10 + 48) 48 (λ z. omega arith), decimal_digit (v / 10) (omega arith), decimal_digit (v % 10) (omega arith), e) (lt-ltb v n h)
