-- The rules as the code asks them, of words that hold a type.
use Rattle.std.specs.Prelude.{◌≡◌, ◌≤◌, length}
use Rattle.code.specs.declared.Word.{Word}
use Rattle.code.specs.Definitions.Sheets.{limits}

-- A word that has a symbol, and no more than there is room for.
pub record Spelt (w : Word) : Type 0 where
  pub some : 1 ≤ w.len
  pub fits : w.len ≤ limits.symbols
  pub array : length w.symbols ≡ limits.symbols
