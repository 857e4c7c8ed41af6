use mathlib.Core.Path.{refl}
use Rattle.turkish.proofs.Laws.Padding.{padding_none, padding_next}
use Rattle.turkish_matrix.proofs.Laws.Rows.{word_spelt, entry_is, row_filled}
use borrow.Author.Rules.{rules}
use Rattle.turkish_matrix.proofs.rules.row_of.Goals as goal

pub loop-y-init : goal.loop-y-init
loop-y-init c = padding_none refl

pub entry_for-requires : goal.entry_for-requires
entry_for-requires c =
    let w = c.words-words.ensures in
    (word_spelt c.args.x c.requires w, word_spelt c.loop-y.y (search rules) w)

pub loop-y-preserved : goal.loop-y-preserved
loop-y-preserved c =
    let l = c.loop-y in
    padding_next (search rules) (entry_is c.args.x l.y c.requires (search rules) c.words-words.ensures c.entry_for.ensures) l.invariant

pub returns : goal.returns
returns c = row_filled c.args.x c.requires (search rules) (search rules) c.loop-y.invariant
