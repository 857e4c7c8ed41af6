use native.Mathlib.Omega.{arith}
use mathlib.Core.Path.{refl}
use Rattle.text_syllables.proofs.Laws.Turns.{going_start, going_end, turn_fits, turn_room, going_next}
use Rattle.text_syllables.proofs.put_syllables.Goals as goal

pub loop-i-init : goal.loop-i-init
loop-i-init c = going_start _ _ _ _ _

pub overflow_add-to : goal.overflow_add-to
overflow_add-to c =
    omega (arith, turn_fits _ _ _ _ _ c.loop-i.invariant c.requires.0 c.loop-i-test.true refl)

pub slice_bounds-put_syllable-end : goal.slice_bounds-put_syllable-end
slice_bounds-put_syllable-end c =
    turn_fits _ _ _ _ _ c.loop-i.invariant c.requires.0 c.loop-i-test.true refl

pub put_syllable-next-requires : goal.put_syllable-next-requires
put_syllable-next-requires c =
    turn_room _ _ _ _ _ c.loop-i.invariant c.requires.0 c.loop-i-test.true refl c.requires.1

pub loop-i-preserved : goal.loop-i-preserved
loop-i-preserved c =
    going_next _ _ _ _ _ c.loop-i.invariant c.requires.0 c.loop-i-test.true refl c.put_syllable-next.ensures

pub returns : goal.returns
returns c = going_end _ _ _ _ _ c.loop-i.invariant (omega arith)
