-- The classes of Turkish letters are those of a class sheet.
use Rattle.code.specs.Definitions.ClassSheets.{FromClassSheet}
use Rattle.code.specs.Definitions.Sheets.{limits}
use Rattle.turkish_letters.specs.Letters.{turkish_classes}
use Rattle.turkish_letters.specs.Given.{turkish_class_sheet, turkish_given}

pub turkish_from_sheet : FromClassSheet limits (record { entries = turkish_classes })
turkish_from_sheet = record { sheet = turkish_class_sheet; gives = turkish_given }
