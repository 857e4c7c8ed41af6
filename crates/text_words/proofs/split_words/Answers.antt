use mathlib.Core.Path.{refl, sym, ◌∙◌}
use native.Mathlib.Omega.{arith}
use Rattle.text_words.specs.Outputs.{going_start, word_showable, word_room, word_end, going_word, going_other, going_end}
use Rattle.text_words.specs.Rooms.{rooms_same}
use Rattle.text_words.proofs.split_words.Goals as goal

pub loop-pos-init : goal.loop-pos-init
loop-pos-init c = (going_start _ _ _ _ _ _ _ _ _, refl, refl, refl, refl)

pub word_at-word-requires : goal.word_at-word-requires
word_at-word-requires c =
    let i = c.loop-pos.invariant in
    (c.requires.0, omega arith, rooms_same c.requires.1.words i.1 i.2 i.3 i.4)

pub put_word-end-requires : goal.put_word-end-requires
put_word-end-requires c =
    let letter = sym c.is_letter.ensures ∙ c.if-is_letter.true in
    let g = c.loop-pos.invariant.0 in
    let here = c.loop-pos-test.true in (
      word_showable _ _ _ _ _ _ _ _ _ g here letter c.requires.0 c.word_at-word.ensures,
      word_room _ _ _ _ _ _ _ _ _ g here letter c.requires.0 c.word_at-word.ensures c.requires.1.output,
    )

pub overflow_add-pos : goal.overflow_add-pos
overflow_add-pos c =
    let letter = sym c.is_letter.ensures ∙ c.if-is_letter.true in
    let g = c.loop-pos.invariant.0 in
    let here = c.loop-pos-test.true in
    omega (arith, word_end _ _ _ _ _ _ _ _ _ g here letter c.requires.0 c.word_at-word.ensures)

pub loop-pos-smaller-then-is_letter : goal.loop-pos-smaller-then-is_letter
loop-pos-smaller-then-is_letter c =
    let letter = sym c.is_letter.ensures ∙ c.if-is_letter.true in
    let g = c.loop-pos.invariant.0 in
    let here = c.loop-pos-test.true in
    let r = c.word_at-word.ensures in
    omega
    (arith, word_end _ _ _ _ _ _ _ _ _ g here letter c.requires.0 r, (word_showable _ _ _ _ _ _ _ _ _ g here letter c.requires.0 r).some)

pub loop-pos-preserved-then-is_letter : goal.loop-pos-preserved-then-is_letter
loop-pos-preserved-then-is_letter c =
    let letter = sym c.is_letter.ensures ∙ c.if-is_letter.true in
    let g = c.loop-pos.invariant.0 in
    let here = c.loop-pos-test.true in (
      going_word _ _ _ _ _ _ _ _ _ g here letter c.requires.0 c.word_at-word.ensures c.put_word-end.ensures,
      omega arith,
      omega arith,
      omega arith,
      omega arith,
    )

pub bounds-out-end : goal.bounds-out-end
bounds-out-end c =
    let g = c.loop-pos.invariant.0 in
    omega (arith, g.bound, g.long, c.requires.1.output)

pub overflow_add-end : goal.overflow_add-end
overflow_add-end c =
    let g = c.loop-pos.invariant.0 in
    omega (arith, g.bound, g.long, c.requires.1.output)

pub loop-pos-preserved : goal.loop-pos-preserved
loop-pos-preserved c =
    let i = c.loop-pos.invariant in
    let other = sym c.is_letter.ensures ∙ c.if-is_letter.false in
    (going_other _ _ _ _ _ _ _ _ _ i.0 c.loop-pos-test.true other, i.1, i.2, i.3, i.4)

pub returns : goal.returns
returns c =
    going_end _ _ _ _ _ _ _ _ _ c.requires.1.output (omega arith) c.loop-pos.invariant.0

pub shape_of-out : goal.shape_of-out
shape_of-out c = c.loop-pos.invariant.0.long

pub shape_of-message : goal.shape_of-message
shape_of-message c = c.loop-pos.invariant.1

pub shape_of-first : goal.shape_of-first
shape_of-first c = c.loop-pos.invariant.2

pub shape_of-second : goal.shape_of-second
shape_of-second c = c.loop-pos.invariant.3

pub shape_of-work : goal.shape_of-work
shape_of-work c = c.loop-pos.invariant.4
