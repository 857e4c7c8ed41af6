-- A code read from bytes: what each element of an array made in turn is, and the parts of the code with copies.
use mathlib.Core.Path.{◌≡◌, sym, ◌∙◌}
use mathlib.Core.List.{List}
use Prim.Native.Nat.{ℕ, zero, suc, ◌+◌, ◌≤◌, ◌<◌}
use native.Mathlib.Decide.{ℕ_discrete}
use native.Mathlib.Omega.{arith}
use denote.Param.Members.{Mut}
use lib.ListN.{get_or}
use Rattle.std.specs.Array.{IsFromFnResultFrom}
use Rattle.std.specs.Fn.{Called}
use Rattle.code.specs.declared.Row.{Row}
use Rattle.code.specs.declared.Code.{Code}
use Rattle.c_image.specs.Image.{code_length, origins_place, behind_place, row_in, code_in, enlarged_in}

-- An array that `from_fn` makes, element by element, where the closure computes h.
pub from_fn_at : {F B : Type 0} (g : Mut F (ℕ × Unit {0}) B) (f : F) (h : ℕ → B) (ys : List B) (d : B) → ((x : ℕ) (b : B) (q : F) → Called g f (x, tt) b q → (q ≡ f) × (b ≡ h x))
    → (n i : ℕ) → IsFromFnResultFrom g f ys i n → (k : ℕ) → i ≤ k → k < i + n → h k ≡ get_or ys k d
from_fn_at g f h ys d computes zero i each k l m = absurd (omega arith)
from_fn_at g f h ys d computes (suc n) i (q, y, element, called, rest) k l m =
    let later = from_fn_at g f h ys d computes n (i + 1) (rw (computes i y q called).0 at rest) k in
    by later (ℕ_discrete i k)
  where
    by : (i + 1 ≤ k → k < i + 1 + n → h k ≡ get_or ys k d) → Dec (i ≡ k) → h k ≡ get_or ys k d
    by later (yes e) = rw (← e) (sym (element.1 d ∙ (computes i y q called).1))
    by later (no e) = later (omega arith) (omega arith)

-- Behind the code stand the number of originals, the origins and the words behind.
pub unpacked : (b : List ℕ) (c : Code) (r s : Row) → c ≡ code_in b → r ≡ row_in b origins_place → s ≡ row_in b behind_place
    → record { code = c; originals = get_or b code_length 0; origins = r.entries; behind = s.entries } ≡ enlarged_in b
unfolding enlarged_in
unpacked b c r s e n k = rw (e, n, k)
