-- `decimal` is what a number's digits are: the fewest that hold it, and there is one such number of digits.
use mathlib.Core.Path.{◌≡◌, refl, ◌∙◌}
use mathlib.Core.List.{[], ◌∷◌}
use Prim.Native.Nat.{ℕ, zero, suc, ◌-◌, ◌/◌, ◌%◌, ◌^◌, ◌≤◌, ◌<◌}
use native.Mathlib.Omega.{arith}
use native.Mathlib.Decide.{dec_lt}
use native.Mathlib.Nat.{pow-suc, pow-le-pow_right, le-div_iff_mul-le, div-lt_iff_lt-mul}
use lib.ListN.{length, length-append}
use borrow.Author.Tests.{lt-ltb, le-ltb}
use Rattle.io.specs.Digits.{last_digits, hex_digit_ascii, IsDigitCount}
use Rattle.printing.specs.Printed.{places_within, places, decimal}

less_one : (i : ℕ) → suc i - 1 ≡ i
less_one i = omega arith

-- The digits of n are those of n / 10 and one more: the bounds for n are those for n / 10, ten times as large.
module _ (n : ℕ) (large : 10 ≤ n) where
  above : (i : ℕ) → IsDigitCount 10 1 (n / 10) i → n < 10 ^ suc i
  above i f = rw (pow-suc 10 i) ((div-lt_iff_lt-mul {k = 10} {x = n} {y = 10 ^ i} (omega arith)).0 f.1)

  below : (i : ℕ) → IsDigitCount 10 1 (n / 10) (suc i) → 10 ^ suc i ≤ n
  below zero f = large
  below (suc i) f =
      rw (pow-suc 10 (suc i)) ((le-div_iff_mul-le {k = 10} {x = 10 ^ suc i} {y = n} (omega arith)).0 (rw (less_one (suc i)) at (f.2 (omega arith))))

  more_digits : (j : ℕ) → IsDigitCount 10 1 (n / 10) j → IsDigitCount 10 1 n (suc j)
  more_digits zero f = absurd (omega (arith, f.0))
  more_digits (suc i) f = (omega arith, above (suc i) f, (λ g. rw (less_one (suc i)) (below i f)))

fewest_within : (k n : ℕ) → n ≤ k → IsDigitCount 10 1 n (places_within k n)
unfolding places_within
fewest_within zero n h = (omega arith, omega arith, (λ g. absurd (omega arith)))
fewest_within (suc k) n h = by_size (λ m i. fewest_within k m i) (dec_lt n 10)
  where
    by_size : ((m : ℕ) → m ≤ k → IsDigitCount 10 1 m (places_within k m)) → Dec (n < 10) → IsDigitCount 10 1 n (places_within (suc k) n)
    by_size shorter (yes l) = rw (lt-ltb n 10 l) (omega arith, l, (λ g. absurd (omega arith)))
    by_size shorter (no l) = rw (le-ltb n 10 (omega arith)) (more_digits n (omega arith) (places_within k (n / 10)) (shorter (n / 10) (omega arith)))

-- No fewer digits hold n.
pub places_fewest : (n : ℕ) → IsDigitCount 10 1 n (places n)
unfolding places
places_fewest n = fewest_within n n (omega arith)

-- n below 10 ^ m has at most m digits.
pub places_most : (n m : ℕ) → 1 ≤ m → n < 10 ^ m → places n ≤ m
places_most n m one small = by_size (dec_lt m (places n))
  where
    by_size : Dec (m < places n) → places n ≤ m
    by_size (yes l) =
        let f = places_fewest n in
        absurd (omega (arith, f.2 (omega arith), pow-le-pow_right {n = 10} (omega arith) {i = m} {j = places n - 1} (omega arith)))
    by_size (no l) = omega arith

-- There is one fewest number of digits, so digits that are the fewest are `decimal`.
fewest_most : (n j k : ℕ) → IsDigitCount 10 1 n j → IsDigitCount 10 1 n k → k ≤ j
fewest_most n j k f g = by_size (dec_lt j k)
  where
    by_size : Dec (j < k) → k ≤ j
    by_size (yes l) = absurd (omega (arith, f.1, g.2 (omega (arith, f.0)), pow-le-pow_right {n = 10} (omega arith) {i = j} {j = k - 1} (omega arith)))
    by_size (no l) = omega arith

pub fewest_digits : (n k : ℕ) → IsDigitCount 10 1 n k → last_digits 10 k n ≡ decimal n
fewest_digits n k f =
    let p = places_fewest n in
    let same : k ≡ places n = omega (arith, fewest_most n k (places n) f p, fewest_most n (places n) k p f) in
    rw same

pub length_digits : (b k n : ℕ) → length (last_digits b k n) ≡ k
length_digits b zero n = refl
length_digits b (suc k) n = length-append (last_digits b k (n / b)) (hex_digit_ascii (n % b) ∷ []) ∙ rw (length_digits b k (n / b)) (omega arith)

pub length-decimal : (n : ℕ) → length (decimal n) ≡ places n
length-decimal n = length_digits 10 (places n) n
