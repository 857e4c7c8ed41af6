-- How a ban list is passed record by record: what is stored so far and the records to come are the list's.
use mathlib.Core.Path.{◌≡◌, sym, ◌∙◌}
use mathlib.Core.Bool.{Bool, true, false}
use mathlib.Core.List.{List, ◌++◌, map, append-nil}
use Prim.Native.Nat.{ℕ, ◌+◌, ◌-◌, ◌*◌, ◌≤◌, ◌<◌}
use native.Mathlib.Omega.{arith}
use lib.ListN.{length, drop, drop_of_length-le}
use lib.Seq.{append_snoc}
use borrow.Author.Tests.{ne_eqb}
use Rattle.code.specs.Definitions.Lists.{any}
use Rattle.code.specs.Definitions.Sheets.{grid, body, bad_bytes}
use Rattle.code.specs.Definitions.BanLists.{bad_ban, ban_of, ban_records, refused16, bans_of}
use Rattle.code.specs.Laws.Clean.{Clean, record_fields}
use Rattle.csv_records.specs.Front.{rest_of, rest_within, rest_past}
use Rattle.std.specs.Prelude.{Option, Some, None}
use Rattle.ban_list.specs.declared.fields.Record.{Record}
use Rattle.ban_theory.specs.Triples.{bans_from, bans_none}
use Rattle.ban_list.specs.Ensured.{BanFrom, Room, Stored, Listed}

-- k bans of s are stored, and the next record begins at `at`.
pub record Passed (n : ℕ) (s numbers : List ℕ) (k at : ℕ) : Type 0 where
  pub stored : bans_from numbers k ++ map ban_of (rest_of s at) ≡ map ban_of (record_fields s)
  pub refused : any (bad_ban n) (rest_of s at) ≡ any (bad_ban n) (record_fields s)
  pub clean : at ≤ length s → Clean (drop at s)
  pub few : 3 * k ≤ at - 2
  pub within : at ≤ length s + 2

pub passing_starts : (n : ℕ) (s numbers : List ℕ) → Clean s → Passed n s numbers 0 0
passing_starts n s numbers c = record {
  stored = rw (bans_none numbers, rest_within s 0 (omega arith));
  refused = rw (rest_within s 0 (omega arith));
  clean = λ h. c;
  few = omega arith;
  within = omega arith;
}

-- One record further.
module _ {n : ℕ} {s numbers : List ℕ} {k at : ℕ} (p : Passed n s numbers k at) where
  -- past the last record
  pub passing_ends : (old : List ℕ) → length s ≤ length old → length numbers ≡ length old → length s < at
      → Listed (any (bad_ban n) (record_fields s)) (map ban_of (record_fields s)) numbers (Some k)
  unfolding any
  passing_ends old l q h =
      let rest = rest_past s at h in
      (sym p.refused ∙ rw rest, sym (append-nil (bans_from numbers k)) ∙ (rw rest at p.stored), omega (arith, p.few, p.within))

  module _ (h : at ≤ length s) where
    pub passing_clean : Clean (drop at s)
    passing_clean = p.clean h

    pub passing_stops : any (bad_ban n) (record_fields (drop at s)) ≡ true → any (bad_ban n) (record_fields s) ≡ true
    passing_stops e = sym p.refused ∙ rw (rest_within s at h) e

    module _ {b : Record} (a : BanFrom n s at b) where
      pub passing_room : (old : List ℕ) → length s ≤ length old → length numbers ≡ length old → n ≤ 256 → Room numbers k b
      passing_room old l q m = record {
        wide = omega (arith, p.few, a.long, a.within);
        byte_x = omega (arith, a.low_x);
        byte_y = omega (arith, a.low_y);
        byte_z = omega (arith, a.low_z);
      }

      pub passing_less : length s + 2 - b.next < length s + 2 - at
      passing_less = omega (arith, a.long, a.within)

      pub passing_on : {more : List ℕ} → Stored numbers k b more → Passed n s more (k + 1) b.next
      unfolding any
      passing_on {more} t =
          let rest = rest_within s at h ∙ a.first in
          record {
            stored = rw (t.bans, append_snoc, ← a.same) (rw rest at p.stored);
            refused = sym (rw (rest, a.right)) ∙ p.refused;
            clean = a.clean;
            few = omega (arith, p.few, a.long);
            within = a.within;
          }

-- The whole list: 0 bytes, wrong bytes, or what its records say.
module _ (n : ℕ) (list numbers : List ℕ) where
  pub list_empty : length list ≡ 0 → Listed (refused16 n list) (bans_of list) numbers (Some 0)
  unfolding refused16 bans_of ban_records any bad_bytes
  list_empty h = let none = drop_of_length-le list {i = 0} (omega arith) in (rw none, bans_none numbers ∙ rw none, omega arith)

  pub list_bytes : {t : Bool} → t ≡ bad_bytes false list → t ≡ true → Listed (refused16 n list) (bans_of list) numbers None
  unfolding refused16
  list_bytes q e = rw (← q, e)

  pub list_records : {t : Bool} {b : List ℕ} (r : Option ℕ) → b ≡ body list → (length list ≡ 0 → ⊥) → t ≡ bad_bytes false list → t ≡ false
      → Listed (any (bad_ban n) (record_fields b)) (map ban_of (record_fields b)) numbers r → Listed (refused16 n list) (bans_of list) numbers r
  unfolding refused16 bans_of ban_records grid
  list_records r e h q f l = rw (← q, f, ne_eqb (length list) 0 h) (rw e at l)
