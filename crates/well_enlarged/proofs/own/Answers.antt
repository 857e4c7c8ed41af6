-- A word is its own origin, and past the words the origin is 0.
use mathlib.Core.Path.{sym}
use mathlib.Core.List.{[]}
use Rattle.ban_theory.specs.CopyLists.{origin_word, origin_copy}
use Rattle.well_enlarged.proofs.own.Goals as goal

pub returns-then-x-n : goal.returns-then-x-n
returns-then-x-n c = sym (origin_word _ [] _ c.if-x-n.true)

pub returns-else-x-n : goal.returns-else-x-n
returns-else-x-n c = sym (origin_copy _ [] _ c.if-x-n.false)
