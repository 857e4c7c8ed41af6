-- The ban list that is written for bans: its numbers in decimal digits, parted by commas, a record for each ban. Refusal 16 does not meet it, it gives the bans
-- back, and it has at most ten bytes for each ban.
use Rattle.std.specs.Prelude.{◌≡◌, true, ℕ, ◌+◌, ◌*◌, ◌≤◌, ◌<◌, length}
use Rattle.std.proofs.Math.Path.{refl}
use Rattle.std.proofs.Common.{sym, ap₂, ◌∙◌}
use Rattle.std.proofs.Math.Bool.{false}
use Rattle.std.proofs.lemmas.Bool.{false≢true}
use mathlib.Core.List.{List, [], ◌∷◌, map}
use native.Mathlib.Omega.{arith}
use Rattle.std.proofs.Math.Dec.{eqb}
use borrow.Author.Tests.{eq-eqb, ne_eqb}
use Rattle.code.specs.Definitions.Lists.{any, every, sum}
use Rattle.code.specs.Definitions.Sheets.{is_digit, bad_bytes}
use Rattle.code.specs.Definitions.Bans.{Ban, is_ban, banned_by}
use Rattle.code.specs.Definitions.BanLists.{ban_of, bad_ban, ban_records, refused16, bans_of}
use Rattle.code.specs.Laws.Lists.{or_neither}
use Rattle.ban_theory.specs.BanLists.{Known, ban}
use Rattle.ban_theory.specs.Triples.{KnownBan}
use Rattle.csv_records.specs.Join.{length-join}
use Rattle.csv_records.specs.Sheets.{record_of, sheet_of, Digital, none, more, sheet_bytes, sheet_grid, sheet_some, sheet_length}
use Rattle.ban_writing.specs.Numbers.{number_field, number_back, number_digits, number_short, number_known}

-- the fields of a ban's record
abbrev pub fields_of : Ban → List (List ℕ)
fields_of b = number_field b.x ∷ number_field b.y ∷ number_field b.z ∷ []

unfoldable pub print : List Ban → List ℕ
print [] = []
print (b ∷ bs) = sheet_of (map fields_of (b ∷ bs))

-- Where nothing is banned after one word twice, no ban names one word twice.
ban_apart : (b : Ban) (bs : List Ban) → ((x y : ℕ) → banned_by (b ∷ bs) x y y ≡ false) → b.y ≡ b.z → ⊥
unfolding any banned_by
ban_apart b bs a e =
    false≢true
    (sym (or_neither (is_ban b.x b.y b.y b) (any (is_ban b.x b.y b.y) bs) (a b.x b.y)).0
    ∙ rw (eq-eqb b.x b.x refl, eq-eqb b.y b.y refl) (eq-eqb b.z b.y (sym e)))

module _ (n : ℕ) (few : n ≤ 100) where
  module _ (b : Ban) (w : KnownBan n b) where
    x< : b.x < 100
    x< = omega (arith, w.x)

    y< : b.y < 100
    y< = omega (arith, w.y)

    z< : b.z < 100
    z< = omega (arith, w.z)

    fields_digits : every (every is_digit) (fields_of b) ≡ true
    unfolding every
    fields_digits = rw (number_digits b.x x<, number_digits b.y y<, number_digits b.z z<)

    ban_back : ban_of (fields_of b) ≡ b
    ban_back = rw (number_back b.x x<, number_back b.y y<, number_back b.z z<)

    ban_good : (b.y ≡ b.z → ⊥) → bad_ban n (fields_of b) ≡ false
    unfolding bad_ban every
    ban_good d =
        rw (number_known b.x x< n w.x, number_known b.y y< n w.y, number_known b.z z< n w.z, number_back b.y y<, number_back b.z z<) (ne_eqb b.y b.z d)

    record_short : length (record_of (fields_of b)) ≤ 8
    unfolding sum
    record_short = omega (arith, length-join (44 ∷ []) (fields_of b) (omega arith), number_short b.x x<, number_short b.y y<, number_short b.z z<)

  digital : (bs : List Ban) → Known n bs → Digital (map fields_of bs)
  digital [] k = none
  digital (b ∷ bs) (ban x y z k) = more {r = fields_of b} (omega arith) (fields_digits b (record { x = x; y = y; z = z })) (digital bs k)

  -- The records of the list are those that were written.
  records_back : (bs : List Ban) → Known n bs → ban_records (print bs) ≡ map fields_of bs
  unfolding ban_records print
  records_back [] k = refl
  records_back (b ∷ bs) k =
      let g = map fields_of (b ∷ bs) in
      let some : eqb (length (sheet_of g)) 0 ≡ false = ne_eqb (length (sheet_of g)) 0 (λ e. omega (arith, sheet_some g)) in
      rw some (sheet_grid (digital (b ∷ bs) k) (omega arith))

  bytes_good : (bs : List Ban) → Known n bs → bad_bytes false (print bs) ≡ false
  unfolding print bad_bytes
  bytes_good [] k = refl
  bytes_good (b ∷ bs) k = sheet_bytes (digital (b ∷ bs) k)

  bans_good : (bs : List Ban) → Known n bs → ((x y : ℕ) → banned_by bs x y y ≡ false) → any (bad_ban n) (map fields_of bs) ≡ false
  unfolding any banned_by
  bans_good [] k a = refl
  bans_good (b ∷ bs) (ban x y z k) a =
      rw (ban_good b (record { x = x; y = y; z = z }) (ban_apart b bs a)) (bans_good bs k (λ i j. (or_neither (is_ban i j j b) (any (is_ban i j j) bs) (a i j)).1))

  bans_same : (bs : List Ban) → Known n bs → map ban_of (map fields_of bs) ≡ bs
  bans_same [] k = refl
  bans_same (b ∷ bs) (ban x y z k) =
      ap₂ (λ (c : Ban) (cs : List Ban). c ∷ cs) (ban_back b (record { x = x; y = y; z = z })) (bans_same bs k)

  -- The bans are read back.
  pub bans_back : (bs : List Ban) → Known n bs → bans_of (print bs) ≡ bs
  unfolding bans_of
  bans_back bs k = rw (records_back bs k) (bans_same bs k)

  -- Refusal 16 does not meet the list.
  pub print_accepted : (bs : List Ban) → Known n bs → ((x y : ℕ) → banned_by bs x y y ≡ false) → refused16 n (print bs) ≡ false
  unfolding refused16
  print_accepted bs k a = rw (bytes_good bs k, records_back bs k) (bans_good bs k a)

  joined_short : (bs : List Ban) → Known n bs → sum (map (λ (r : List ℕ). length r + 2) (map record_of (map fields_of bs))) ≤ 10 * length bs
  unfolding sum
  joined_short [] k = omega arith
  joined_short (b ∷ bs) (ban x y z k) = omega (arith, record_short b (record { x = x; y = y; z = z }), joined_short bs k)

  -- It is short.
  pub print_short : (bs : List Ban) → Known n bs → length (print bs) ≤ 10 * length bs
  unfolding print
  print_short [] k = omega arith
  print_short (b ∷ bs) k = omega (arith, sheet_length (map fields_of (b ∷ bs)) (omega arith), joined_short (b ∷ bs) k)
