-- The bans whose numbers stand three by three at the front of a list, and what is known of each.
use Rattle.std.specs.Prelude.{◌≡◌, refl, List, [], ◌∷◌, ◌++◌, ℕ, zero, suc, ◌+◌, ◌*◌, ◌<◌, length, get_or}
use Rattle.std.proofs.Common.{arith}
use Rattle.code.specs.Definitions.Lists.{tabulate}
use Rattle.code.specs.Definitions.Bans.{Ban}
use Rattle.code.specs.Laws.Lists.{tabulate_more, length-tabulate, get_d_tabulate}
use Rattle.ban_theory.specs.BanLists.{Known, no_ban, ban}

-- ban i of the list
abbrev pub ban_at : List ℕ → ℕ → Ban
ban_at l i = record { x = get_or l (3 * i) 0; y = get_or l (3 * i + 1) 0; z = get_or l (3 * i + 2) 0 }

-- the first k bans
unfoldable pub bans_from : List ℕ → ℕ → List Ban
bans_from l k = tabulate (ban_at l) k

pub bans_none : (l : List ℕ) → bans_from l 0 ≡ []
unfolding bans_from tabulate
bans_none l = refl

pub bans_more : (l : List ℕ) (k : ℕ) → bans_from l (k + 1) ≡ bans_from l k ++ (ban_at l k ∷ [])
unfolding bans_from
bans_more l k = tabulate_more (ban_at l) k

-- A ban on known words.
pub record KnownBan (n : ℕ) (b : Ban) : Type 0 where
  pub x : b.x < n
  pub y : b.y < n
  pub z : b.z < n

known_at : {n : ℕ} {bs : List Ban} → Known n bs → (i : ℕ) (d : Ban) → i < length bs → KnownBan n (get_or bs i d)
known_at no_ban i d h = absurd (omega arith)
known_at (ban x y z k) zero d h = record { x = x; y = y; z = z }
known_at (ban x y z k) (suc i) d h = known_at k i d (omega arith)

pub known_ban : {n : ℕ} (l : List ℕ) (k : ℕ) → Known n (bans_from l k) → (i : ℕ) → i < k → KnownBan n (ban_at l i)
unfolding bans_from
known_ban l k known i h = rw (get_d_tabulate (ban_at l) k i (ban_at l i) h) at (known_at known i (ban_at l i) (rw (length-tabulate (ban_at l) k) h))
