use mathlib.Core.List.{[]}
use Rattle.writing.specs.Fields.{none_put}
use Rattle.turkish_matrix.proofs.Laws.Lines.{all_lines, line_fits, line_more, lines_all}
use borrow.Author.Rules.{rules}
use Rattle.turkish_matrix.proofs.put_lines.Goals as goal

pub loop-x-init : goal.loop-x-init
loop-x-init c = none_put [] all_lines _ _

pub put_line-next-requires : goal.put_line-next-requires
put_line-next-requires c = let l = c.loop-x in (search rules, line_fits l.x (search rules) c.row_of.ensures l.invariant c.requires)

pub loop-x-preserved : goal.loop-x-preserved
loop-x-preserved c = let l = c.loop-x in line_more l.x (search rules) c.row_of.ensures l.invariant c.put_line-next.ensures

pub returns : goal.returns
returns c = let l = c.loop-x in lines_all l.x (search rules) l.invariant
