-- Each way out is the case of its test.
use Rattle.ban_copies.specs.Coming.{stands_itself, stands_behind}
use borrow.Author.Rules.{rules}
use Rattle.ban_copies.proofs.filling.stands_after.Goals as goal

pub returns-then-x-copies : goal.returns-then-x-copies
returns-then-x-copies c = stands_itself _ c.requires.0 c.if-x-copies.true c.has_copy.ensures

pub returns : goal.returns
returns c = stands_behind c.args.y c.requires.0 (search rules) c.requires.1
