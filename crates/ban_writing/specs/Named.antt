-- What a ban list that refusal 16 does not meet says of its bans: they are on words of the table, and none has Y equal to Z.
use Rattle.std.specs.Prelude.{◌≡◌, Bool, true, not, ◌&&◌, ℕ, ◌<◌, eqb, length}
use Rattle.std.proofs.Math.Path.{refl}
use Rattle.std.proofs.Common.{sym, ◌∙◌, arith}
use Rattle.std.proofs.Math.Bool.{false, and-false, and-eq-true_iff}
use mathlib.Core.List.{List, [], ◌∷◌, map}
use borrow.Author.Tests.{eqb-true, eqb-false, not-false}
use Rattle.code.specs.Definitions.Lists.{any, every}
use Rattle.code.specs.Definitions.Sheets.{bad_bytes}
use Rattle.code.specs.Definitions.Bans.{Ban, is_ban, banned_by}
use Rattle.code.specs.Definitions.BanLists.{is_number, ban_of, bad_ban, ban_records, refused16, bans_of}
use Rattle.code.specs.Laws.Lists.{or_neither}
use Rattle.ban_list.specs.Numbers.{number_below}
use Rattle.ban_theory.specs.BanLists.{Known, no_ban, ban}

module _ (n : ℕ) where
  -- A record that is three word numbers.
  three : (r : List (List ℕ)) → eqb (length r) 3 ≡ true → every (is_number n) r ≡ true
      → ((ban_of r).x < n) × (((ban_of r).y < n) × ((ban_of r).z < n))
  unfolding every
  three [] l e = absurd (omega (arith, eqb-true 0 3 l))
  three (f ∷ []) l e = absurd (omega (arith, eqb-true 1 3 l))
  three (f ∷ g ∷ []) l e = absurd (omega (arith, eqb-true 2 3 l))
  three (f ∷ g ∷ h ∷ r) l e =
      let a = (and-eq-true_iff (is_number n f) (every (is_number n) (g ∷ h ∷ r))).0 e in
      let b = (and-eq-true_iff (is_number n g) (every (is_number n) (h ∷ r))).0 a.1 in
      let c = (and-eq-true_iff (is_number n h) (every (is_number n) r)).0 b.1 in
      (number_below n f a.0, (number_below n g b.0, number_below n h c.0))

  good_record : (r : List (List ℕ)) → bad_ban n r ≡ false
      → (((ban_of r).x < n) × (((ban_of r).y < n) × ((ban_of r).z < n))) × (eqb (ban_of r).y (ban_of r).z ≡ false)
  unfolding bad_ban
  good_record r e =
      let a = or_neither (not (eqb (length r) 3 && every (is_number n) r)) (eqb (ban_of r).y (ban_of r).z) e in
      let b = (and-eq-true_iff (eqb (length r) 3) (every (is_number n) r)).0 (not-false _ a.0) in
      (three r b.0 b.1, a.1)

  known_records : (g : List (List (List ℕ))) → any (bad_ban n) g ≡ false → Known n (map ban_of g)
  unfolding any
  known_records [] e = no_ban
  known_records (r ∷ g) e =
      let a = or_neither (bad_ban n r) (any (bad_ban n) g) e in
      let b = good_record r a.0 in
      ban b.0.0 b.0.1.0 b.0.1.1 (known_records g a.1)

  apart_ban : (b : Ban) (x y : ℕ) → eqb b.y b.z ≡ false → is_ban x y y b ≡ false
  apart_ban b x y d = rw (not_both (eqb b.y y) (eqb b.z y) refl refl) (and-false (eqb b.x x))
    where
      not_both : (t u : Bool) → eqb b.y y ≡ t → eqb b.z y ≡ u → t && u ≡ false
      not_both true true p q = absurd (eqb-false b.y b.z d (eqb-true b.y y p ∙ sym (eqb-true b.z y q)))
      not_both true false p q = refl
      not_both false u p q = refl

  apart_records : (g : List (List (List ℕ))) → any (bad_ban n) g ≡ false → (x y : ℕ) → banned_by (map ban_of g) x y y ≡ false
  unfolding any banned_by
  apart_records [] e x y = refl
  apart_records (r ∷ g) e x y =
      let a = or_neither (bad_ban n r) (any (bad_ban n) g) e in
      rw (apart_ban (ban_of r) x y (good_record r a.0).1) (apart_records g a.1 x y)

  module _ (s : List ℕ) (accepted : refused16 n s ≡ false) where
    records_good : any (bad_ban n) (ban_records s) ≡ false
    unfolding refused16
    records_good = (or_neither (bad_bytes false s) (any (bad_ban n) (ban_records s)) accepted).1

    -- Its numbers are those of words.
    pub listed_known : Known n (bans_of s)
    unfolding bans_of
    listed_known = known_records (ban_records s) records_good

    -- It bans nothing after one word twice.
    pub listed_apart : (x y : ℕ) → banned_by (bans_of s) x y y ≡ false
    unfolding bans_of
    listed_apart = apart_records (ban_records s) records_good
