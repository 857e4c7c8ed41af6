-- Which word may come after which in a code with copies: what the arrays of the copies, a row of the code's matrix and the bans say.
use Rattle.std.specs.Prelude.{◌≡◌, Bool, true, ◌&&◌, List, ℕ, ◌+◌, ◌*◌, ◌≤◌, ◌<◌, eqb, length, if◌then◌else◌}
use Rattle.std.proofs.Math.Path.{sym, ap}
use Rattle.std.proofs.Common.{◌∙◌, arith}
use Rattle.std.proofs.Math.Bool.{false, not}
use Rattle.std.proofs.Math.Dec.{ltb}
use Rattle.std.proofs.Math.ListN.{get_or}
use borrow.Author.Tests.{lt-ltb, le-ltb, eq-eqb, ne_eqb}
use Rattle.code.specs.declared.Code.{Code}
use Rattle.code.specs.Definitions.Sheets.{limits}
use Rattle.code.specs.Definitions.Tables.{no_row, table_of}
use Rattle.code.specs.Definitions.Bans.{Ban, Copy, has_copy, banned_by, copies_of, copy_at, origin, stands_after, unbanned, may_come}
use Rattle.ban_theory.specs.CopyLists.{origin_word, stands_word, stands_copy}
use Rattle.ban_theory.specs.Triples.{bans_from}
use Rattle.code.specs.Laws.WellFormed.{WellFormed}
use Rattle.code.specs.Laws.Words.{size-count}
use Rattle.ban_copies.specs.declared.Copies.{Copies}
use Rattle.ban_copies.specs.Held.{held, Held, origin_at, behind_at_lem, held_is, held_again}

-- Behind a word of n nothing is banned; behind a copy, what the bans say.
unfoldable pub allowed : ℕ → List Ban → ℕ → ℕ → Bool
allowed n bs x y = if ltb y n then true else not (banned_by bs (origin n (copies_of bs) x) (copy_at n (copies_of bs) y).behind (origin n (copies_of bs) y))

-- x may come immediately after y, by the row e of the word of x.
unfoldable pub comes : List ℕ → ℕ → List Ban → ℕ → ℕ → Bool
comes e n bs x y = eqb (get_or e (origin n (copies_of bs) y) 0) 1 && (stands_after n (copies_of bs) x (origin n (copies_of bs) y) && allowed n bs x y)

-- an entry of the matrix, by that row
abbrev pub entry_by : List ℕ → ℕ → List Ban → ℕ → ℕ → ℕ
entry_by e n bs x y = if ltb y (n + length (copies_of bs)) && comes e n bs x y then 1 else 0

-- What is known where it is asked whether x may come after y.
pub record Asked (l : List ℕ) (bans : ℕ) (k : Copies) (x y : ℕ) : Type 0 where
  pub arrays : Held k.originals (copies_of (bans_from l bans)) k
  pub own : Held k.originals (held k) k
  pub within : 3 * bans ≤ length l
  pub next : x < k.originals + k.number
  pub last : y < k.originals + k.number
  pub most : k.originals + k.number ≤ limits.words

pub asked : {l : List ℕ} {bans : ℕ} {k : Copies} {x y : ℕ} → Held k.originals (copies_of (bans_from l bans)) k → 3 * bans ≤ length l
    → x < k.originals + k.number → y < k.originals + k.number → Asked l bans k x y
asked {l} {bans} {k} {x} {y} h w a b =
    let n = h.number in
    let m = h.most in
    record {
      arrays = h;
      own = held_again h;
      within = w;
      next = a;
      last = b;
      most = omega arith;
    }

-- The copies let x stand after y.
module _ {k : Copies} {x : ℕ} {r : Bool} (y : ℕ) (h : Held k.originals (held k) k) where
  pub stands_itself : x < k.originals → r ≡ has_copy (held k) y (get_or k.origins x 0) → not r ≡ stands_after k.originals (held k) x y
  stands_itself l e =
      let m = h.most in
      ap not (e ∙ ap (has_copy (held k) y) (origin_at h x (omega arith) ∙ origin_word k.originals (held k) x l)) ∙ sym (stands_word k.originals (held k) x y l)

pub stands_behind : {k : Copies} {x : ℕ} (y : ℕ) → Held k.originals (held k) k → (x < k.originals → ⊥) → x < k.originals + k.number
    → eqb (get_or k.behind x 0) y ≡ stands_after k.originals (held k) x y
stands_behind {k} {x} y h l b =
    let m = h.most in
    let n = h.number in
    let far : k.originals ≤ x = omega arith in
    ap (λ (v : ℕ). eqb v y) (behind_at_lem h x (omega arith) ∙ rw (le-ltb x k.originals far)) ∙ sym (stands_copy k.originals (held k) x y far)

module _ {l : List ℕ} {bans : ℕ} {k : Copies} {x y : ℕ} (a : Asked l bans k x y) where
  pub allowed_word : y < k.originals → true ≡ allowed k.originals (bans_from l bans) x y
  unfolding allowed
  allowed_word h = rw (lt-ltb y k.originals h)

  pub allowed_copy : {r : Bool} → (y < k.originals → ⊥) → r ≡ banned_by (bans_from l bans) (get_or k.origins x 0) (get_or k.behind y 0) (get_or k.origins y 0)
      → not r ≡ allowed k.originals (bans_from l bans) x y
  unfolding allowed
  allowed_copy h e =
      let far : ltb y k.originals ≡ false = le-ltb y k.originals (omega arith) in
      let m = a.most in
      let i = a.next in
      let j = a.last in
      let b : get_or k.behind y 0 ≡ (copy_at k.originals (copies_of (bans_from l bans)) y).behind = behind_at_lem a.arrays y (omega arith) ∙ rw far in
      ap not e ∙ rw (far, origin_at a.arrays x (omega arith), b, origin_at a.arrays y (omega arith))

  -- o is the word of y, and e the row of the word of x.
  module _ (e : List ℕ) {o : ℕ} (word : o ≡ get_or k.origins y 0) where
    column : origin k.originals (copies_of (bans_from l bans)) y ≡ o
    column = let m = a.most in let j = a.last in sym (word ∙ origin_at a.arrays y (omega arith))

    pub comes_not : (get_or e o 0 ≡ 1 → ⊥) → false ≡ comes e k.originals (bans_from l bans) x y
    unfolding comes
    comes_not h = rw (column, ne_eqb (get_or e o 0) 1 h)

    module _ (f : get_or e o 0 ≡ 1) {r : Bool} (s : r ≡ stands_after k.originals (held k) x o) where
      stands_is : stands_after k.originals (copies_of (bans_from l bans)) x o ≡ r
      stands_is = ap (λ (cs : List Copy). stands_after k.originals cs x o) (sym (held_is a.arrays)) ∙ sym s

      pub comes_elsewhere : r ≡ false → false ≡ comes e k.originals (bans_from l bans) x y
      unfolding comes
      comes_elsewhere q = rw (column, eq-eqb (get_or e o 0) 1 f, stands_is, q)

      pub comes-allowed : {q : Bool} → r ≡ true → q ≡ allowed k.originals (bans_from l bans) x y → q ≡ comes e k.originals (bans_from l bans) x y
      unfolding comes
      comes-allowed p t = rw (column, eq-eqb (get_or e o 0) 1 f, stands_is, p) t

-- The rows of a code tell what its table permits.
pub comes_may : {c : Code} (bs : List Ban) (x y : ℕ) → WellFormed limits c
    → may_come (table_of c) (copies_of bs) (banned_by bs) x y ≡ comes (get_or c.rows (origin c.count (copies_of bs) x) no_row).entries c.count bs x y
unfolding may_come comes unbanned allowed origin stands_after
comes_may bs x y well = rw (size-count well)
