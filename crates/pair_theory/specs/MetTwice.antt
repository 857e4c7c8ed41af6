-- A pair met by two walks makes no cycle: in the code of the words 0, 01, 011 and 102 without bans, the second symbol of 102 and the end of 0 are met
-- by 010 and by 0110, and the delay is 5.
use Rattle.std.specs.Prelude.{◌≡◌, refl, true, false, [], ◌∷◌, ℕ, suc, ◌<◌, ltb, length}
use Rattle.std.proofs.Common.{arith, ltb-true}
use Rattle.code.specs.Definitions.Tables.{Table, word, one, more, two_words, begun}
use Rattle.code.specs.Laws.Openings.{rivals_begin}
use Rattle.code.specs.Definitions.Readings.{Decipherable}
use Rattle.code.specs.Definitions.Delays.{SharePrefix, Delay}
use Rattle.pair_theory.specs.Places.{Place, first_place, Plain, symbol, Ends, Parting, FirstPair, CommonStep, Step, inside, across, Reached, start, onward}
use Rattle.pair_theory.specs.Bounded.{every_below, every_below_lem, bounded, bounded_delay}

abbrev pub four_words : Table
four_words = record {
  words = (0 ∷ []) ∷ (0 ∷ 1 ∷ []) ∷ (0 ∷ 1 ∷ 1 ∷ []) ∷ (1 ∷ 0 ∷ 2 ∷ []) ∷ [];
  follow = λ x y. true;
  begins = λ x. true;
  banned = λ x y z. false;
}

-- symbol k of word x
abbrev pub at : ℕ → ℕ → Place
at x k = record { w = x; k = k }

four_plain : Plain four_words
unfolding every_below
four_plain = record {
  some = λ x h. ltb-true 0 (length (word four_words x)) (every_below_lem (λ z. ltb 0 (length (word four_words z))) 4 refl x h);
  free = λ x y z. refl;
}

into : {x k y : ℕ} → Ends four_words (at x k) → y < 4 → Step four_words (at x k) (first_place y)
into e h = across e h refl refl

along : {x k : ℕ} → suc k < length (word four_words x) → Step four_words (at x k) (at x (suc k))
along h = inside h refl

first : {x y : ℕ} → x < 4 → y < 4 → (x ≡ y → ⊥) → symbol four_words (first_place x) ≡ symbol four_words (first_place y)
    → FirstPair four_words (Parting four_words) (first_place x) (first_place y)
first {x} {y} h k d e = record { x = x; y = y; left_known = h; right_known = k; starts = record { differ = d; rivals = rivals_begin refl refl }; left = refl; right = refl; same = e }

by_010 : Reached four_words (Parting four_words) (0 ∷ 1 ∷ 0 ∷ []) (at 3 1) (at 0 0)
by_010 =
    let f : FirstPair four_words (Parting four_words) (at 0 0) (at 1 0) = first (omega arith) (omega arith) (λ e. omega arith) refl in
    let a : CommonStep four_words (at 0 0) (at 1 0) (at 3 0) (at 1 1) = record { left = into refl (omega arith); right = along (omega arith); same = refl } in
    let b : CommonStep four_words (at 3 0) (at 1 1) (at 3 1) (at 0 0) = record { left = along (omega arith); right = into refl (omega arith); same = refl } in
    onward (onward (start f refl) a refl) b refl

by_0110 : Reached four_words (Parting four_words) (0 ∷ 1 ∷ 1 ∷ 0 ∷ []) (at 3 1) (at 0 0)
by_0110 =
    let f : FirstPair four_words (Parting four_words) (at 1 0) (at 2 0) = first (omega arith) (omega arith) (λ e. omega arith) refl in
    let a : CommonStep four_words (at 1 0) (at 2 0) (at 1 1) (at 2 1) = record { left = along (omega arith); right = along (omega arith); same = refl } in
    let b : CommonStep four_words (at 1 1) (at 2 1) (at 3 0) (at 2 2) = record { left = into refl (omega arith); right = along (omega arith); same = refl } in
    let c : CommonStep four_words (at 3 0) (at 2 2) (at 3 1) (at 0 0) = record { left = along (omega arith); right = into refl (omega arith); same = refl } in
    onward (onward (onward (start f refl) a refl) b refl) c refl

-- 01 102 and 011 0 share 0110.
four_share : SharePrefix four_words 4
four_share = record {
  o = [];
  x = 1;
  s = 3 ∷ [];
  y = 2;
  u = 0 ∷ [];
  left = begun refl (more {y = 1} {x = 3} (omega arith) refl (one {x = 3} (omega arith))) two_words;
  right = begun refl (more {y = 2} {x = 0} (omega arith) refl (one {x = 0} (omega arith))) two_words;
  differ = λ e. omega arith;
  share = refl;
}

-- Two different walks lead to one pair, and the delay is finite all the same.
pub met_twice : Reached four_words (Parting four_words) (0 ∷ 1 ∷ 0 ∷ []) (at 3 1) (at 0 0) × Reached four_words (Parting four_words) (0 ∷ 1 ∷ 1 ∷ 0 ∷ []) (at 3 1) (at 0 0) × (Decipherable four_words × Delay four_words 5)
unfolding bounded
met_twice = (by_010, by_0110, bounded_delay four_words 4 refl four_plain four_share)
