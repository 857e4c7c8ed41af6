-- The code without its ban and every entry of the table hold, since they pass the checks.
use Rattle.std.proofs.Math.Bool.{and-eq-true_iff}
use mathlib.Core.List.{Memᴰ}
use Rattle.code.specs.Definitions.Lists.{every}
use Rattle.cases.specs.Members.{every_member}
use Rattle.cases.specs.Cases.{Holds, check}
use Rattle.cases.proofs.Cases.{sound}
use Rattle.cases.specs.Banned.{BannedCase, BannedHolds, check_banned}
use Rattle.cases.proofs.Banned.{sound_banned}
use Rattle.cases.specs.WithBans.{freely, banned, banned_checked}

-- The code without its ban holds, by the definitions,
pub freely_holds : Holds freely
freely_holds = sound freely ((and-eq-true_iff (check freely) (every check_banned banned)).0 banned_checked).0

-- and so does every entry of the table.
pub banned_hold : {c : BannedCase} → Memᴰ c banned → BannedHolds c
banned_hold {c} m = sound_banned c (every_member check_banned ((and-eq-true_iff (check freely) (every check_banned banned)).0 banned_checked).1 m)
