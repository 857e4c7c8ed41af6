-- A value that a table of a sheet and a list of bans give: the bans are on words of the table, and no limit is passed.
use Rattle.std.specs.Prelude.{◌≡◌, false, List, ℕ}
use Rattle.code.specs.declared.Code.{Code}
use Rattle.code.specs.declared.Enlarged.{Enlarged}
use Rattle.code.specs.declared.Limits.{Limits}
use Rattle.code.specs.Definitions.Bans.{Ban, banned_by}
use Rattle.code.specs.Definitions.Enlarged.{enlarged_code, refused17}
use Rattle.ban_theory.specs.BanLists.{Known}
use Rattle.code.specs.Laws.WellFormed.{WellFormed}

pub record FromBans (l : Limits) (e : Enlarged) : Type 0 where
  pub base : Code
  pub given : WellFormed l base
  pub bans : List Ban
  pub known : Known base.count bans
  -- 02, request 2: "Y and Z different", in every ban
  pub apart : (x y : ℕ) → banned_by bans x y y ≡ false
  pub room : refused17 l base bans ≡ false
  pub same : enlarged_code l base bans ≡ e
