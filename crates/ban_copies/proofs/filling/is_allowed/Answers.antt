-- Each way out is the case of its test.
use Rattle.ban_copies.specs.Coming.{allowed_word, allowed_copy}
use borrow.Author.Rules.{rules}
use Rattle.ban_copies.proofs.filling.is_allowed.Goals as goal

pub returns-then-y-copies : goal.returns-then-y-copies
returns-then-y-copies c = allowed_word c.requires c.if-y-copies.true

pub returns : goal.returns
returns c = allowed_copy c.requires (search rules) c.is_banned.ensures
