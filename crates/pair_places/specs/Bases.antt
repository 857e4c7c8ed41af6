-- Numbers of places: words take up the numbers from 0 on without gaps, so each number below the end is a place of one word.
use Rattle.std.specs.Prelude.{◌≡◌, ℕ, zero, suc, ◌+◌, ◌-◌, ◌≤◌, ◌<◌}
use Rattle.std.proofs.Math.Path.{refl}
use Rattle.std.proofs.Math.Decide.{dec_lt}
use Rattle.std.proofs.Common.{add-one, arith}
use Rattle.code.specs.Definitions.Lists.{tabulate, sum}
use Rattle.code.specs.Definitions.Tables.{Table}
use Rattle.code.specs.Laws.Lists.{sum_more}
use Rattle.pair_places.specs.Lays.{length_of, base}

-- Number p is symbol k of word w, one of the first n words.
pub record Located (t : Table) (n p : ℕ) : Type 0 where
  pub w : ℕ
  pub k : ℕ
  pub known : w < n
  pub within : k < length_of t w
  pub number : p ≡ base t w + k

module _ (t : Table) where
  pub base_none : base t 0 ≡ 0
  unfolding base tabulate sum
  base_none = refl

  pub base_more : (n : ℕ) → base t (n + 1) ≡ base t n + length_of t n
  unfolding base
  base_more n = sum_more (length_of t) n

  base-suc : (n : ℕ) → base t (suc n) ≡ base t n + length_of t n
  base-suc n = rw (← add-one n) (base_more n)

  -- An earlier word's places come before.
  pub base_before : (x n : ℕ) → x < n → base t x + length_of t x ≤ base t n
  base_before x zero h = absurd (omega arith)
  base_before x (suc n) h = by_last (base_before x n) (dec_lt x n)
    where
      by_last : (x < n → base t x + length_of t x ≤ base t n) → Dec (x < n) → base t x + length_of t x ≤ base t (suc n)
      by_last before (yes l) = omega (arith, before l, base-suc n)
      by_last before (no l) =
          let e : x ≡ n = omega arith in
          rw e (omega (arith, base-suc n))

  -- Each number below the end of n words is a place of one of them.
  pub locate : (n p : ℕ) → p < base t n → Located t n p
  locate zero p h = absurd (omega (arith, base_none))
  locate (suc n) p h = by_last (locate n p) (dec_lt p (base t n))
    where
      by_last : (p < base t n → Located t n p) → Dec (p < base t n) → Located t (suc n) p
      by_last before (yes l) =
          let b = before l in
          record { w = b.w; k = b.k; known = omega (arith, b.known); within = b.within; number = b.number }
      by_last before (no l) = record {
        w = n;
        k = p - base t n;
        known = omega arith;
        within = omega (arith, base-suc n);
        number = omega arith;
      }
