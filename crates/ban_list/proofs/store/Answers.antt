-- Three bytes written behind the others make one ban more.
use Rattle.std.proofs.Common.{◌≡◌, arith, ◌+◌, ◌*◌, ◌-◌}
use Rattle.ban_list.proofs.Laws.Storing.{stored_more, stored_long}
use Rattle.ban_list.proofs.store.Goals as goal

pub returns : goal.returns
returns c =
    let a = c.args in
    let three : 3 * a.k + 3 - 3 * a.k ≡ 3 = omega arith in
    rw (three, c.copy_from_slice.ensures.after) record { bans = stored_more a.numbers.now a.k a.ban.x a.ban.y a.ban.z c.requires.wide; long = stored_long a.numbers.now a.k a.ban.x a.ban.y a.ban.z c.requires.wide }
