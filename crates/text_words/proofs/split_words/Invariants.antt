-- The bytes passed are split, and no buffer has changed its length. The measure is what is left of the text: a word has a letter, and any other byte is one.
use Prim.Native.Nat.{◌-◌}
use lib.ListN.{length}
use mathlib.Core.Path.{◌≡◌}
use Rattle.text_words.specs.Outputs.{Going}
use Rattle.text_words.proofs.split_words.Given as goal

abbrev pub invariant-loop-pos : goal.invariant-loop-pos
invariant-loop-pos l =
    Going l.having l.ends l.rows l.lengths l.n l.longest l.classes l.text l.initial.out l.out l.pos l.end
    × (length l.message ≡ length l.initial.message) × (length l.first ≡ length l.initial.first) × (length l.second ≡ length l.initial.second) × (length l.work ≡ length l.initial.work)

abbrev pub decreases-loop-pos : goal.decreases-loop-pos
decreases-loop-pos l = length l.text - l.pos
