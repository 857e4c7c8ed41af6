-- What a ban list means does not depend on the order of its records, nor on records that stand in it more than once. The copies may then be numbered otherwise, but the two
-- values are alike.
use Rattle.std.specs.Prelude.{◌≡◌, refl, List, ℕ}
use Rattle.code.specs.Definitions.Lists.{any}
use Rattle.code.specs.Definitions.Bans.{Ban, is_ban, banned_by}
use Rattle.code.specs.Definitions.BanLists.{ban_of, ban_records, bans_of}
use Rattle.code.specs.Laws.Lists.{any-map}
use Rattle.ban_meaning.specs.Members.{SameElements}

-- Two lists of bans forbid the same.
abbrev pub SameBans : List Ban → List Ban → Type 0
SameBans bs cs = (x y z : ℕ) → banned_by bs x y z ≡ banned_by cs x y z

-- The records of each of two ban lists stand in the other, in any order and any number of times.
abbrev pub SameRecords : List ℕ → List ℕ → Type 0
SameRecords s u = SameElements (ban_records s) (ban_records u)

pub banned_records : (s : List ℕ) (x y z : ℕ) → banned_by (bans_of s) x y z ≡ any (λ r. is_ban x y z (ban_of r)) (ban_records s)
unfolding banned_by bans_of
banned_records s x y z = any-map (is_ban x y z) (λ r. is_ban x y z (ban_of r)) ban_of (λ r. refl) (ban_records s)
