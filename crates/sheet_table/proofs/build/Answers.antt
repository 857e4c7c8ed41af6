use borrow.Author.Rules.{rules}
use Rattle.sheet_table.specs.Building.{built_none, word_next, row_next, built_more, built_all}
use Rattle.sheet_table.proofs.build.Goals as goal

pub loop-k-init : goal.loop-k-init
loop-k-init c = built_none _ _ c.requires.0 c.blank_code-code.ensures

pub read_word-requires : goal.read_word-requires
read_word-requires c =
    let p = c.requires in
    let f = c.field_end-e.ensures in
    (f.0, f.1, word_next _ _ _ _ _ _ _ _ p.2 c.loop-k.invariant p.3 p.4 (search rules) f.0)

pub read_row-requires : goal.read_row-requires
read_row-requires c =
    let p = c.requires in
    rw c.row_start-first.ensures.0 (row_next _ _ _ _ _ _ _ _ p.2 c.loop-k.invariant p.3 p.4 (search rules) c.field_end-e.ensures.0)

pub loop-k-preserved : goal.loop-k-preserved
loop-k-preserved c =
    let p = c.requires in
    let first = c.row_start-first.ensures.0 in
    rw first
    (built_more _ _ _ _ _ _ _ _ p.2 c.loop-k.invariant p.3 p.4 (search rules) c.field_end-e.ensures.0 _ _ _ c.read_word.ensures
    c.read_mark.ensures (rw first at c.read_row.ensures))

pub returns : goal.returns
returns c =
    let l = c.loop-k in
    let p = c.requires in
    built_all _ _ l.code l.at l.k _ p.2 l.invariant p.3 (search rules)
