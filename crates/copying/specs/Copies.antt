-- A copy (`paste`): which entries it changes, and that it is a run of stores.
use Rattle.std.specs.Prelude.{◌≡◌, List, ◌++◌, ℕ, ◌+◌, ◌-◌, ◌≤◌, ◌<◌, length, take, drop, get_or}
use Rattle.std.proofs.Common.{sym, ◌∙◌, append_assoc, arith, length-append, length-drop, take-append-drop, length-take-le, drop-drop, take_at, drop_at, get_or-take, get_or-drop}
use Rattle.std.proofs.Math.Decide.{dec_lt}
use Rattle.std.proofs.Math.ListN.{get_or-append}
use Rattle.std.proofs.Math.Seq.{paste, take-length, take-append_seam, drop-append-add}
use Rattle.std.proofs.lemmas.List.Edits.{drop-paste, sets, sets-eq}
use Rattle.std.proofs.lemmas.List.{take-append-le, drop-append-le}

-- All of a list copied is the run of its stores.
pub paste_all : (d s : List ℕ) (at n : ℕ) → n ≡ length s → at + n ≤ length d → paste d at s n ≡ sets d at s
paste_all d s at n e h = rw (e, take-length) (sym (sets-eq s d at (omega arith)))

-- A copy behind what a list begins with lengthens it.
pub paste_behind : (m d s : List ℕ) (n : ℕ) → n ≤ length s → paste (m ++ drop (length m) d) (length m) s n ≡ m ++ take n s ++ drop (length (m ++ take n s)) d
paste_behind m d s n h = rw (take-append_seam, drop-append-add, drop-drop, length-append, length-take-le n s h)

-- A stretch of the front does not depend on what comes behind it.
stretch_front : (a b : List ℕ) (p n : ℕ) → p + n ≤ length a → take n (drop p (a ++ b)) ≡ take n (drop p a)
stretch_front a b p n h = rw (drop-append-le p a b (omega arith)) (take-append-le n (drop p a) b (rw length-drop (omega arith)))

module _ (d s : List ℕ) (at n : ℕ) (within : at + n ≤ length d) (some : n ≤ length s) where
  front : length (take at d) ≡ at
  front = length-take-le at d (omega arith)

  -- A copy leaves the stretches before it as they were, and a stretch in its place is the copied one.
  pub paste_before : (p k : ℕ) → p + k ≤ at → take k (drop p (paste d at s n)) ≡ take k (drop p d)
  paste_before p k h = rw append_assoc (stretch_front (take at d) (take n s ++ drop (at + n) d) p k (rw front h))
      ∙ sym (stretch_front (take at d) (drop at d) p k (rw front h)) ∙ rw (take-append-drop at d)

  pub paste_here : take n (drop at (paste d at s n)) ≡ take n s
  paste_here = rw (append_assoc, drop_at (take at d) (take n s ++ drop (at + n) d) at front) (take_at (take n s) (drop (at + n) d) n (length-take-le n s some))

  -- An entry in its place is the copied one, and every other entry is as it was.
  pub paste_at_here : (i : ℕ) → i < n → get_or (paste d at s n) (at + i) 0 ≡ get_or s i 0
  paste_at_here i h = rw (append_assoc, ← get_or-drop at (take at d ++ (take n s ++ drop (at + n) d)) i 0, drop_at (take at d) (take n s ++ drop (at + n) d) at front)
      (get_or-append (take n s) (drop (at + n) d) 0 i (rw (length-take-le n s some) h) ∙ get_or-take n s i 0 h)

  pub paste_at_other : (i : ℕ) → (at ≤ i → i < at + n → ⊥) → get_or (paste d at s n) i 0 ≡ get_or d i 0
  paste_at_other i other = by_place (dec_lt i at)
    where
      by_place : Dec (i < at) → get_or (paste d at s n) i 0 ≡ get_or d i 0
      by_place (yes l) =
          rw append_assoc (get_or-append (take at d) (take n s ++ drop (at + n) d) 0 i (rw front l)) ∙ get_or-take at d i 0 l
      by_place (no g) =
          let e : i ≡ at + n + (i - (at + n)) = omega (arith, other (omega arith)) in
          rw (e, ← get_or-drop (at + n) (paste d at s n), ← get_or-drop (at + n) d, drop-paste d at s n (omega arith) some)
