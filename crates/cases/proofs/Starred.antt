-- Every entry of the two tables of codes holds, since both pass the check.
use mathlib.Core.List.Memᴰ
use mathlib.Core.List.{Memᴰ}
use Rattle.cases.specs.Members.{every_member}
use Rattle.cases.specs.Cases.{Case, Holds, check}
use Rattle.cases.proofs.Cases.{sound}
use Rattle.cases.specs.Starred.{starred, opened, starred_checked}

-- Every entry of the first table holds, by the definitions,
pub starred_hold : {c : Case} → Memᴰ c starred → Holds c
starred_hold {c} m = sound c (every_member check starred_checked (Memᴰ.append_left opened m))

-- and so does every entry of the second.
pub opened_hold : {c : Case} → Memᴰ c opened → Holds c
opened_hold {c} m = sound c (every_member check starred_checked (Memᴰ.append_right starred m))
