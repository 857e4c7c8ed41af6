-- Each way out is a constructor of what adding a copy gives.
use mathlib.Core.Path.{sym, ◌∙◌}
use native.Mathlib.Omega.{arith}
use Rattle.ban_copies.specs.Adding.{there, new, many, long}
use Rattle.ban_copies.proofs.adding.add_copy.Goals as goal

pub returns-then-has_copy : goal.returns-then-has_copy
returns-then-has_copy c = there (sym c.has_copy.ensures ∙ c.if-has_copy.true)

pub returns-then-at-eq-WORDS : goal.returns-then-at-eq-WORDS
returns-then-at-eq-WORDS c = many (sym c.has_copy.ensures ∙ c.if-has_copy.false) (omega arith)

pub returns-then-copies-len-gt-SYMBOLS : goal.returns-then-copies-len-gt-SYMBOLS
returns-then-copies-len-gt-SYMBOLS c = long (sym c.has_copy.ensures ∙ c.if-has_copy.false) (omega arith)

pub returns : goal.returns
returns c = new (sym c.has_copy.ensures ∙ c.if-has_copy.false) (omega arith) (omega arith)
