-- What enlarging a code answers: the enlarged code where the copies are within the limits, else refusal 17.
use Rattle.std.specs.Prelude.{Err, Ok}
use mathlib.Core.Path.{◌≡◌}
use mathlib.Core.List.{List}
use Rattle.code.specs.declared.Code.{Code}
use Rattle.code.specs.declared.Enlarged.{Enlarged}
use Rattle.code.specs.declared.Refusal.TheVariants.{BanLimit}
use Rattle.code.specs.Definitions.Sheets.{limits}
use Rattle.code.specs.Definitions.Bans.{Ban, copies_of}
use Rattle.code.specs.Definitions.Enlarged.{blank_enlarged, enlarged_code, enlargement}
use Rattle.ban_theory.specs.BanLists.{Known}
use Rattle.code.specs.Laws.WellFormed.{WellFormed}
use Rattle.ban_copies.specs.declared.Copies.{Copies}
use Rattle.ban_copies.specs.Held.{Held}
use Rattle.ban_copies.specs.Adding.{Collected, Passed, refused_passed, refused_not}

module _ (c : Code) (bs : List Ban) where
  -- The filled code and the arrays are the enlarged code.
  pub enlarged_whole : {k : Copies} {filled : Code} → Held c.count (copies_of bs) k → filled ≡ (enlarged_code limits c bs).code
      → record { code = filled; originals = c.count; origins = k.origins; behind = k.behind } ≡ enlarged_code limits c bs
  unfolding enlarged_code
  enlarged_whole h p = rw (p, h.origins, h.behind)

  module _ (well : WellFormed limits c) (known : Known c.count bs) {e : Enlarged} where
    pub accepted : {k : Copies} → Collected c (copies_of bs) k → e ≡ enlarged_code limits c bs → record { answer = Ok tt; enlarged = e } ≡ enlargement limits c bs
    unfolding enlargement
    accepted had p = rw (refused_not bs well known had, p)

    pub refused : Passed c bs → e ≡ blank_enlarged limits → record { answer = Err BanLimit; enlarged = e } ≡ enlargement limits c bs
    unfolding enlargement
    refused passed p = rw (refused_passed bs well known passed, p)
