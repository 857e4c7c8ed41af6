-- A case with bans that look two words back. What is expected speaks of the table with its bans, in the numbers of its words. The enlarged code computes and has no bans, so
-- the check for other cases serves for it, and what it shows is named over.
use Rattle.std.specs.Prelude.{◌≡◌, Bool, ◌&&◌, List, [], ◌∷◌, map, ℕ, ◌≤◌, ◌<◌, ltb}
use Rattle.std.proofs.Math.Path.{subst, subst₂}
use Rattle.std.proofs.Math.Bool.{true, and-eq-true_iff}
use Rattle.std.proofs.Math.Dec.{leb}
use borrow.Author.Tests.{ltb-true, leb-true}
use Rattle.code.specs.Definitions.Lists.{any, every}
use Rattle.code.specs.Definitions.Tables.{Table, size}
use Rattle.code.specs.Definitions.Bans.{Ban, banned_by, with_bans, copies_from, copies_of, origin, number_after, may_come, enlarged}
use Rattle.code.specs.Definitions.Readings.{OnlyReading, Ambiguous}
use Rattle.ban_theory.specs.BanLists.{Known, no_ban, ban, copies_serve}
use Rattle.ban_theory.specs.Copies.{enlarged_covers}
use Rattle.ban_theory.specs.Covers.{Cover, lift}
use Rattle.ban_theory.specs.Matches.{named_only, decipherable_named, named_delay, named_unbounded, named_ambiguous}
use Rattle.pair_theory.specs.Bounded.{every_below, every_below_lem}
use Rattle.cases.specs.Comparing.{equal, equal-true}
use Rattle.cases.specs.Cases.{Case, Expected, delay, without_bound, ambiguous, only_reading, case_table, Means, is_non_empty, is_meant}

pub record BannedCase : Type 0 where
  pub code : Case
  pub bans : List Ban

-- What is expected of the case's code with its bans holds.
abbrev pub BannedHolds : BannedCase → Type 0
BannedHolds c = Means (with_bans (case_table c.code) (banned_by c.bans)) c.code.expected

-- The numbers of a ban are those of words.
unfoldable pub is_known : ℕ → Ban → Bool
is_known n b = ltb b.x n && (ltb b.y n && ltb b.z n)

pub all_known : (n : ℕ) (bs : List Ban) → every (is_known n) bs ≡ true → Known n bs
unfolding every is_known
all_known n [] e = no_ban
all_known n (b ∷ bs) e =
    let h = (and-eq-true_iff (is_known n b) (every (is_known n) bs)).0 e in
    let x = (and-eq-true_iff (ltb b.x n) (ltb b.y n && ltb b.z n)).0 h.0 in
    let y = (and-eq-true_iff (ltb b.y n) (ltb b.z n)).0 x.1 in
    ban (ltb-true b.x n x.0) (ltb-true b.y n y.0) (ltb-true b.z n y.1) (all_known n bs h.1)

module _ (t : Table) (bs : List Ban) where
  -- the enlarged code of a table and its bans
  abbrev pub enlarged_by : Table
  enlarged_by = enlarged t (copies_of bs) (banned_by bs)

  -- the word that a number stands for, and the numbers of the enlarged code for words
  unfoldable pub name : ℕ → ℕ
  unfolding origin copies_from
  name x = origin (size t) (copies_of bs) x

  unfoldable pub numbers : List ℕ → List ℕ
  unfolding number_after copies_from
  numbers s = lift (λ x. x) (number_after (size t) (copies_of bs)) s

  -- What is expected of the table with its bans, as it is said of the enlarged code.
  abbrev pub in_numbers : Expected → Expected
  in_numbers (delay N) = delay N
  in_numbers without_bound = without_bound
  in_numbers (ambiguous m s u) = ambiguous m (numbers s) (numbers u)
  in_numbers (only_reading m s) = only_reading m (numbers s)

  -- The numbers stand for these words.
  unfoldable pub are_named : List ℕ → Bool
  unfolding equal name numbers
  are_named s = equal (map name (numbers s)) s

  -- Words ascend with the numbers that stand for them, so the first readings by number are the first by word.
  unfoldable pub is_rising : Bool
  unfolding every_below name copies_from
  is_rising = every_below (λ y. every_below (λ x. leb (name x) (name y)) y) (size enlarged_by)

  unfoldable pub is_named : Expected → Bool
  unfolding are_named is_rising
  is_named (delay N) = true
  is_named without_bound = true
  is_named (ambiguous m s u) = is_rising && (are_named s && are_named u)
  is_named (only_reading m s) = are_named s

  rises : is_rising ≡ true → (x y : ℕ) → x < y → y < size enlarged_by → name x ≤ name y
  unfolding is_rising
  rises e x y h k = leb-true (name x) (name y) (every_below_lem (λ x. leb (name x) (name y)) y (every_below_lem (λ y. every_below (λ x. leb (name x) (name y)) y) (size enlarged_by) e y k) x h)

  named : (s : List ℕ) → are_named s ≡ true → map name (numbers s) ≡ s
  unfolding are_named
  named s e = equal-true (map name (numbers s)) s e

  module _ (known : Known (size t) bs) where
    covers : Cover enlarged_by (with_bans t (banned_by bs)) name (λ x. x) (number_after (size t) (copies_of bs))
    unfolding name
    covers = enlarged_covers t (copies_of bs) (banned_by bs) (copies_serve bs known)

    -- What holds of the enlarged code, said in numbers, holds of the table with its bans.
    pub named_over : (x : Expected) → is_named x ≡ true → Means enlarged_by (in_numbers x) → Means (with_bans t (banned_by bs)) x
    unfolding is_named
    named_over (delay N) e m = (decipherable_named covers m.0, named_delay covers m.1)
    named_over without_bound e m = (decipherable_named covers m.0, named_unbounded covers m.1)
    named_over (ambiguous m s u) e a =
        let h = (and-eq-true_iff is_rising (are_named s && are_named u)).0 e in
        let k = (and-eq-true_iff (are_named s) (are_named u)).0 h.1 in
        subst₂ (Ambiguous (with_bans t (banned_by bs)) m) (named s k.0) (named u k.1) (named_ambiguous covers (rises h.0) a)
    named_over (only_reading m s) e o = subst (OnlyReading (with_bans t (banned_by bs)) m) (named s e) (named_only covers o)

-- The bans are on known words, and the enlarged code passes the check for what is expected, in its numbers.
unfoldable pub check_with : Table → List Ban → Expected → Bool
unfolding any every is_known is_non_empty is_meant is_named copies_from may_come banned_by
check_with t bs x = every (is_known (size t)) bs && (is_non_empty (enlarged_by t bs) && (is_meant (enlarged_by t bs) (in_numbers t bs x) && is_named t bs x))

unfoldable pub check_banned : BannedCase → Bool
unfolding check_with
check_banned c = check_with (case_table c.code) c.bans c.code.expected
