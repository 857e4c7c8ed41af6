-- The union of those sets of a list whose numbers are in one more set, `members`. It grows by one set at each of the members, taken from the lowest on; where
-- nothing of the members is left, it is whole.
use Rattle.std.specs.Prelude.{◌≡◌, true, ◌⊎◌, List, ℕ, ◌+◌, ◌/◌, ◌^◌, ◌<◌, length, get_or}
use Rattle.std.proofs.Common.{sym, ◌∙◌, inl, inr, arith}
use Rattle.std.proofs.lemmas.Bool.{false≢true}
use Rattle.std.proofs.Math.Decide.{dec_lt, ℕ_discrete}
use Rattle.std.specs.Int.Bits.{bit_or}
use Rattle.code.specs.Laws.Exactly.{Exactly, exactly_false, exactly_iff, exactly_itself}
use Rattle.bits.specs.Bits.{bit_of, bit_none, bit_out, bit_below}
use Rattle.bits.specs.Sets.{exactly_join}
use Rattle.bits.specs.Lowest.{LowestOf, lowest_in, lowest_between, lowest_below, left_above, left_less}

-- y is in one of the first z sets, and the number of this set is a member.
pub record Within (sets : List ℕ) (members z y : ℕ) : Type 0 where
  pub from : ℕ
  pub below : from < z
  pub member : bit_of members from ≡ true
  pub has : bit_of (get_or sets from 0) y ≡ true

-- r is the union of those of the first z sets whose numbers are members.
pub record UnionOf (sets : List ℕ) (members z r : ℕ) : Type 0 where
  pub is : (y : ℕ) → Exactly (bit_of r y) (Within sets members z y)

pub union_none : (sets : List ℕ) (members : ℕ) → UnionOf sets members 0 0
union_none sets members = record { is = λ y. rw (bit_none y) (exactly_false (λ w. omega (arith, w.below))) }

-- The next member's set joins the union.
pub union_more : {sets : List ℕ} (members z : ℕ) {left r union : ℕ} → left ≡ members / 2 ^ z → LowestOf left r → UnionOf sets members z union
    → UnionOf sets members (z + r + 1) (bit_or union (get_or sets (z + r) 0))
union_more {sets} members z {left} {r} {union} e f u =
    record { is = λ y. exactly_iff (up y, down y) (exactly_join union (get_or sets (z + r) 0) y (u.is y) (exactly_itself (bit_of (get_or sets (z + r) 0) y))) }
  where
    up : (y : ℕ) → Within sets members z y ⊎ (bit_of (get_or sets (z + r) 0) y ≡ true) → Within sets members (z + r + 1) y
    up y (inl w) = record { from = w.from; below = omega (arith, w.below); member = w.member; has = w.has }
    up y (inr h) = record { from = z + r; below = omega arith; member = lowest_in members z e f; has = h }

    down : (y : ℕ) → Within sets members (z + r + 1) y → Within sets members z y ⊎ (bit_of (get_or sets (z + r) 0) y ≡ true)
    down y w = by (dec_lt w.from z) (ℕ_discrete w.from (z + r))
      where
        by : Dec (w.from < z) → Dec (w.from ≡ z + r) → Within sets members z y ⊎ (bit_of (get_or sets (z + r) 0) y ≡ true)
        by (yes h) d = inl (record { from = w.from; below = h; member = w.member; has = w.has })
        by (no h) (yes q) = inr (rw q at w.has)
        by (no h) (no q) = absurd (false≢true (sym (lowest_between members z e f w.from (omega arith) (omega (arith, w.below))) ∙ w.member))

-- Where no member is left, the union is that of all sets.
pub union_all : {sets : List ℕ} (members z : ℕ) {union : ℕ} → members < 2 ^ length sets → members / 2 ^ z ≡ 0 → UnionOf sets members z union
    → UnionOf sets members (length sets) union
union_all {sets} members z few out u = record { is = λ y. exactly_iff (up y, down y) (u.is y) }
  where
    up : (y : ℕ) → Within sets members z y → Within sets members (length sets) y
    up y w = record { from = w.from; below = bit_below members w.from few w.member; member = w.member; has = w.has }

    down : (y : ℕ) → Within sets members (length sets) y → Within sets members z y
    down y w = by (dec_lt w.from z)
      where
        by : Dec (w.from < z) → Within sets members z y
        by (yes h) = record { from = w.from; below = h; member = w.member; has = w.has }
        by (no h) = absurd (false≢true (sym (bit_out members z w.from out (omega arith)) ∙ w.member))

-- What a loop over the members rests on.
pub ruleset union_steps = (lowest_below, left_above, left_less, union_none, union_more, union_all)
