-- Each way out is the case of its tests.
use Rattle.ban_copies.specs.Coming.{comes_not, comes_elsewhere, comes-allowed}
use borrow.Author.Rules.{rules}
use Rattle.ban_copies.proofs.filling.may_come.Goals as goal

pub returns-then-row-last-ne1 : goal.returns-then-row-last-ne1
returns-then-row-last-ne1 c =
    comes_not c.requires c.args.row.entries c.origin_of-last.ensures.0 c.if-row-last-ne1.true

pub returns-then-not-stands_after : goal.returns-then-not-stands_after
returns-then-not-stands_after c =
    comes_elsewhere c.requires c.args.row.entries c.origin_of-last.ensures.0 (search rules) c.stands_after.ensures c.if-not-stands_after.true

pub returns : goal.returns
returns c =
    comes-allowed c.requires c.args.row.entries c.origin_of-last.ensures.0 (search rules) c.stands_after.ensures c.if-not-stands_after.false c.is_allowed.ensures
