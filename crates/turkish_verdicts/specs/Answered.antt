-- What `decipher::verdict` answers for the twelve types, in buffers that are long enough, and what these then begin with.
use Rattle.code.specs.declared.Verdict.{Verdict}
use Rattle.code.specs.declared.Verdict.TheVariants.{Ambiguous as Two-ways}
use Rattle.code.specs.Definitions.Enlarged.{plain_of}
use Rattle.code.specs.Definitions.Operations.{FromLists}
use Rattle.code.specs.Definitions.Sheets.{limits}
use Rattle.ban_meaning.specs.Empty.{plain_lists}
use Rattle.turkish.proofs.Given.{twelve_from_sheet}
use Rattle.turkish_verdicts.specs.Cases.{twelve}

abbrev pub verdict_twelve : Verdict
verdict_twelve = Two-ways (record { 0 = 5 }) (record { 0 = 2 }) (record { 0 = 2 })

-- The built-in code is a value that a sheet gives, without a ban.
pub twelve_lists : FromLists limits (plain_of limits twelve)
twelve_lists = plain_lists twelve_from_sheet
