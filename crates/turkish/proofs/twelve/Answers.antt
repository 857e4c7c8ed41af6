use borrow.Author.Rules.{rules}
use Rattle.turkish.specs.Types.{types}
use Rattle.turkish.proofs.Laws.Making.{made_none, made_more, made_all}
use Rattle.turkish.proofs.twelve.Goals as goal

pub loop-x-init : goal.loop-x-init
loop-x-init c = made_none c.blank_code-code.ensures

pub loop-x-preserved : goal.loop-x-preserved
loop-x-preserved c =
    made_more types c.loop-x.x (search rules) (search rules) c.words-words.ensures c.rows-rows.ensures c.widen.ensures c.loop-x.invariant

pub returns : goal.returns
returns c = let l = c.loop-x in made_all types (search rules) (search rules) l.invariant
