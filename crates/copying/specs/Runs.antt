-- Runs of stores (`sets`): one run behind another, one store more, and a run from the start on.
use Rattle.std.specs.Prelude.{◌≡◌, List, [], ◌∷◌, ◌++◌, ℕ, suc, ◌+◌, ◌≤◌, ◌<◌, length, take, drop, get_or, set}
use Rattle.std.proofs.Common.{◌∙◌, add-zero, zero-add, add-one, arith, take-suc, length-take-le}
use Rattle.std.proofs.lemmas.List.Edits.{sets, sets-eq}

sets_append : (s p d : List ℕ) (at : ℕ) → sets (sets d at s) (at + length s) p ≡ sets d at (s ++ p)
sets_append [] p d at = rw add-zero
sets_append (a ∷ s) p d at =
    let e : at + suc (length s) ≡ suc at + length s = omega arith in
    rw e (sets_append s p (set d at a) (suc at))

-- A run behind another is one run.
pub sets_behind : (s p d : List ℕ) (at i : ℕ) → i ≡ at + length s → sets (sets d at s) i p ≡ sets d at (s ++ p)
sets_behind s p d at i e = rw e (sets_append s p d at)

-- One element more.
pub sets_next : (s d : List ℕ) (at i z : ℕ) → i < length s → set (sets d at (take i s)) (at + i) (get_or s i z) ≡ sets d at (take (i + 1) s)
sets_next s d at i z h =
    rw (add-one, take-suc s i z)
    (sets_behind (take i s) (get_or s i z ∷ []) d at (at + i) (omega (arith, length-take-le i s (omega arith))))

-- A run from the start on is what the list then begins with.
pub sets_front : (s d : List ℕ) → length s ≤ length d → sets d 0 s ≡ s ++ drop (length s) d
sets_front s d h = sets-eq s d 0 (omega arith) ∙ rw zero-add
