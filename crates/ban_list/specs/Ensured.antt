-- What the functions that read a ban list promise.
use Rattle.std.specs.Prelude.{◌≡◌, Bool, true, false, not, List, [], ◌∷◌, ◌++◌, ℕ, ◌+◌, ◌*◌, ◌≤◌, ◌<◌, eqb, length, drop, get_or, Option, MatchOption}
use Rattle.code.specs.Definitions.Lists.{any}
use Rattle.code.specs.Definitions.Bans.{Ban}
use Rattle.code.specs.Definitions.BanLists.{bad_ban, ban_of}
use Rattle.code.specs.Laws.Clean.{Clean, record_fields}
use Rattle.csv_records.specs.Fields.{leading}
use Rattle.csv_records.specs.Front.{rest_of}
use Rattle.ban_list.specs.declared.fields.Field.{Field}
use Rattle.ban_list.specs.declared.fields.Record.{Record}
use Rattle.ban_list.specs.Numbers.{number_in}
use Rattle.ban_theory.specs.Triples.{bans_from}

-- The field that begins at `from` in s, with numbers below n.
pub record FieldAt (n : ℕ) (s : List ℕ) (from : ℕ) (f : Field) : Type 0 where
  pub read : f.number ≡ number_in n (leading (drop from s))
  pub ends : f.end ≡ from + length (leading (drop from s))
  pub within : f.end ≤ length s
  pub stands : f.last ≡ not (eqb (get_or s f.end 0) 44)

-- The record that begins at `from` in s is the ban b, and the next one begins behind it.
pub record BanFrom (n : ℕ) (s : List ℕ) (from : ℕ) (b : Record) : Type 0 where
  pub fields : List (List ℕ)
  pub first : record_fields (drop from s) ≡ fields ∷ rest_of s b.next
  pub right : bad_ban n fields ≡ false
  pub same : ban_of fields ≡ record { x = b.x; y = b.y; z = b.z }
  pub clean : b.next ≤ length s → Clean (drop b.next s)
  pub low_x : b.x < n
  pub low_y : b.y < n
  pub low_z : b.z < n
  pub long : from + 5 ≤ b.next
  pub within : b.next ≤ length s + 2

-- The record that begins at `from` in s: it or a later one is refused 16, or it is a ban.
abbrev pub RecordFrom : ℕ → List ℕ → ℕ → Option Record → Type 0
RecordFrom n s from r = MatchOption r (any (bad_ban n) (record_fields (drop from s)) ≡ true) (BanFrom n s from)

-- There is room for a ban of three bytes behind k others.
pub record Room (numbers : List ℕ) (k : ℕ) (b : Record) : Type 0 where
  pub wide : 3 * k + 3 ≤ length numbers
  pub byte_x : b.x < 256
  pub byte_y : b.y < 256
  pub byte_z : b.z < 256

-- One ban more is stored behind k.
pub record Stored (old : List ℕ) (k : ℕ) (b : Record) (new : List ℕ) : Type 0 where
  pub bans : bans_from new (k + 1) ≡ bans_from old k ++ (record { x = b.x; y = b.y; z = b.z } ∷ [])
  pub long : length new ≡ length old

-- The answer for a list that is refused 16 or has the bans bs: these are stored at the front; of a refused list anything may be.
abbrev pub Listed : Bool → List Ban → List ℕ → Option ℕ → Type 0
Listed refused bs numbers r = MatchOption r (refused ≡ true) (λ k. (refused ≡ false) × (bans_from numbers k ≡ bs) × (3 * k ≤ length numbers))
