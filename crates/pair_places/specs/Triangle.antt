-- Of the s * s cells of the pairs of s places, s * (s + 1) / 2 have the lower place first: those of row r are the last s - r. So a sum of at most 1 for each
-- such cell, and of 0 for every other, is at most the number of unordered pairs. No number is written for s.
use Rattle.std.specs.Prelude.{◌≡◌, List, length, get_or}
use Rattle.std.proofs.Common.{sym, le_trans, suc-mul, zero-mul}
use Prim.Native.Nat.{ℕ, zero, suc, ◌+◌, ◌*◌, ◌-◌, ◌/◌, ◌≤◌, ◌<◌, min, max}
use native.Mathlib.Omega.{arith}
use Rattle.code.specs.Laws.Cells.{total, sum_from, total_under}
use Rattle.pair_theory.specs.Numbering.{up_to, up_to_next, triangle}
use Rattle.pair_places.specs.Cells.{cell_of, low_of, high_of, low_cell, high_cell}

sum_parts : (h : ℕ → ℕ) (k m n : ℕ) → sum_from h k (m + n) ≡ sum_from h k m + sum_from h (k + m) n
unfolding sum_from
sum_parts h k zero n =
    let a : 0 + n ≡ n = omega arith in
    let b : k + 0 ≡ k = omega arith in
    rw (a, b) (omega arith)
sum_parts h k (suc m) n =
    let a : suc m + n ≡ suc (m + n) = omega arith in
    let b : k + suc m ≡ suc k + m = omega arith in
    rw (a, b) (omega (arith, sum_parts h (suc k) m n))

module _ (s : ℕ) where
  -- 1 for a cell with the lower place first, else 0
  unfoldable pub ordered : ℕ → ℕ
  ordered v = min 1 (high_of s v + 1 - low_of s v)

  pub ordered_one : (v : ℕ) → low_of s v ≤ high_of s v → ordered v ≡ 1
  unfolding ordered
  ordered_one v l = omega arith

  ordered_cell : (r c : ℕ) → c < s → ordered (r * s + c) ≡ min 1 (c + 1 - r)
  unfolding ordered cell_of
  ordered_cell r c h = rw (low_cell s r c h, high_cell s r c h)

  -- The last n cells of row r.
  row_part : (r n c : ℕ) → r < s → c + n ≡ s → sum_from ordered (r * s + c) n ≤ s - max r c
  unfolding sum_from
  row_part r zero c h e = omega arith
  row_part r (suc n) c h e =
      let a : r * s + suc c ≡ suc (r * s + c) = omega arith in
      let p : sum_from ordered (suc (r * s + c)) n ≤ s - max r (suc c) = rw a at (row_part r n (suc c) h (omega arith)) in
      omega (arith, ordered_cell r c (omega arith))

  row : (r : ℕ) → r < s → sum_from ordered (r * s) s ≤ s - r
  row r h =
      let a : r * s + 0 ≡ r * s = omega arith in
      let b : max r 0 ≡ r = omega arith in
      rw (a, b) at (row_part r s 0 h (omega arith))

  no_row : (k : ℕ) → sum_from ordered k (zero * s) ≤ up_to suc zero
  unfolding sum_from
  no_row k = rw (zero-mul s) (omega arith)

  -- The last n rows.
  last_rows : (n r : ℕ) → r + n ≡ s → sum_from ordered (r * s) (n * s) ≤ up_to suc n
  last_rows zero r e = no_row (r * s)
  last_rows (suc n) r e =
      let a : suc n * s ≡ s + n * s = omega (arith, suc-mul n s) in
      let b : r * s + s ≡ suc r * s = sym (suc-mul r s) in
      let p = row r (omega arith) in
      let l = last_rows n (suc r) (omega arith) in
      rw (a, sum_parts ordered (r * s) s (n * s), b) (omega (arith, up_to_next suc n))

  all_rows : sum_from ordered 0 (s * s) ≤ up_to suc s
  all_rows = rw (zero-mul s) at (last_rows s 0 (omega arith))

  -- A sum over the cells that counts only pairs with the lower place first, each once.
  pub pairs_most : (w : ℕ → ℕ) (xs : List ℕ) → length xs ≡ s * s → ((v : ℕ) → w (get_or xs v 0) ≤ ordered v) → total w xs ≤ s * (s + 1) / 2
  pairs_most w xs e p =
      let a = total_under w ordered 0 xs (λ j n q. let z : j ≡ n = omega arith in rw (← z) (p j)) in
      rw (← triangle s) (le_trans (rw e at a) all_rows)
