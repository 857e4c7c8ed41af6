-- A letter stays; another byte gets the symbol.
use mathlib.Core.Path.{refl}
use Rattle.class_sheet.specs.Filling.{had, got}
use Rattle.class_sheet.proofs.give.Goals as goal

pub returns-then-entries-b-lt-OTHER : goal.returns-then-entries-b-lt-OTHER
returns-then-entries-b-lt-OTHER c = had c.if-entries-b-lt-OTHER.true refl

pub returns : goal.returns
returns c = got c.if-entries-b-lt-OTHER.false refl
