-- What passes the check of cases with bans holds of the table with its bans.
use Rattle.std.specs.Prelude.{◌≡◌, refl, ◌&&◌, List}
use Rattle.std.proofs.Math.Bool.{true, and-eq-true_iff}
use Rattle.code.specs.Definitions.Lists.{every}
use Rattle.code.specs.Definitions.Tables.{Table, size}
use Rattle.code.specs.Definitions.Bans.{Ban, banned_by, with_bans}
use Rattle.cases.specs.Cases.{Expected, case_table, Means, is_non_empty, is_meant, non_empty}
use Rattle.cases.proofs.Cases.{meant}
use Rattle.cases.specs.Banned.{BannedCase, BannedHolds, is_known, enlarged_by, in_numbers, is_named, all_known, named_over, check_with, check_banned}

-- What passes the check holds of the table with its bans.
pub sound_with : (t : Table) (bs : List Ban) (x : Expected) → check_with t bs x ≡ true → Means (with_bans t (banned_by bs)) x
unfolding check_with
sound_with t bs x e =
    let d = enlarged_by t bs in
    let h = (and-eq-true_iff (every (is_known (size t)) bs) (is_non_empty d && (is_meant d (in_numbers t bs x) && is_named t bs x))).0 e in
    let i = (and-eq-true_iff (is_non_empty d) (is_meant d (in_numbers t bs x) && is_named t bs x)).0 h.1 in
    let j = (and-eq-true_iff (is_meant d (in_numbers t bs x)) (is_named t bs x)).0 i.1 in
    named_over t bs (all_known (size t) bs h.0) x j.1 (meant d (record { some = non_empty d i.0; free = λ x y z. refl }) (in_numbers t bs x) j.0)

-- A case with bans that passes the check holds.
pub sound_banned : (c : BannedCase) → check_banned c ≡ true → BannedHolds c
unfolding check_banned
sound_banned c e = sound_with (case_table c.code) c.bans c.code.expected e
