-- The code of the twelve types is the table of a sheet.
use Rattle.code.specs.Definitions.Sheets.{limits, FromSheet}
use Rattle.turkish.specs.Types.{types, code_of_types}
use Rattle.turkish.specs.Given.{twelve_sheet, twelve_given}

pub twelve_from_sheet : FromSheet limits (code_of_types limits types)
twelve_from_sheet = record { sheet = twelve_sheet; gives = twelve_given }
