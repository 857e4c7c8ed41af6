-- Refusal 16 meets both of two lists with the same records or neither.
use Rattle.std.specs.Prelude.{◌≡◌, List, ℕ}
use Rattle.std.proofs.Common.{sym, ◌∙◌}
use Rattle.code.specs.Definitions.BanLists.{bad_ban, refused16}
use Rattle.ban_meaning.specs.Members.{any_same}
use Rattle.ban_meaning.specs.SameBans.{SameRecords}
use Rattle.ban_meaning.specs.Wrong.{refused16_records}

-- So it meets both of two lists with the same records or neither.
pub refused16_same : (n : ℕ) (s u : List ℕ) → SameRecords s u → refused16 n s ≡ refused16 n u
refused16_same n s u r = refused16_records n s ∙ any_same (bad_ban n) r ∙ sym (refused16_records n u)
