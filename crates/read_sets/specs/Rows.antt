-- Rows of the matrix as sets, entry by entry: an entry is a digit, and shifted up by y it is the set of y or the empty one.
use Rattle.std.specs.Prelude.{◌≡◌, refl, ◌⊎◌, List, ℕ, ◌+◌, ◌*◌, ◌%◌, ◌^◌, ◌≤◌, ◌<◌, eqb, length, get_or, set}
use Rattle.std.proofs.Common.{inl, inr, arith, length-set}
use Rattle.std.proofs.Math.Decide.{ℕ_discrete}
use Rattle.std.specs.Int.Bits.{bit_or}
use Rattle.code.specs.declared.Code.{Code}
use Rattle.code.specs.declared.Row.{Row}
use Rattle.code.specs.Definitions.Tables.{no_row}
use Rattle.code.specs.Definitions.Sheets.{limits}
use Rattle.code.specs.Laws.Cells.{on_push}
use Rattle.code.specs.Laws.Exactly.{Exactly, exactly_iff, exactly_same, exactly_eq}
use Rattle.bits.specs.Bits.{bit_of, width, bit_digit}
use Rattle.bits.specs.Sets.{exactly_join}

-- k is the start, which is n, if its mark is 1, or one of the first y words and in the row.
abbrev pub InRow : (row : Row) (start n y k : ℕ) → Type 0
InRow row start n y k = ((k ≡ n) × (start ≡ 1)) ⊎ ((k < y) × (get_or row.entries k 0 ≡ 1))

-- r is the set of these.
pub record RowSet (row : Row) (start n y r : ℕ) : Type 0 where
  pub is : (k : ℕ) → Exactly (bit_of r k) (InRow row start n y k)

pub row_none : (row : Row) (start n : ℕ) → start < 2 → n < width → RowSet row start n 0 (start * 2 ^ n % 2 ^ width)
row_none row start n d h = record { is = λ k. exactly_iff (inl, back k) (bit_digit start n k d h) }
  where
    back : (k : ℕ) → InRow row start n 0 k → (k ≡ n) × (start ≡ 1)
    back k (inl e) = e
    back k (inr p) = absurd (omega (arith, p.0))

pub row_more : {row : Row} {start n y r : ℕ} (e : ℕ) → e ≡ get_or row.entries y 0 → e < 2 → y < width → RowSet row start n y r
    → RowSet row start n (y + 1) (bit_or r (e * 2 ^ y % 2 ^ width))
row_more {row} {start} {n} {y} {r} e q h l s = record { is = λ k. exactly_iff (up k, down k) (exactly_join r (e * 2 ^ y % 2 ^ width) k (s.is k) (bit_digit e y k h l)) }
  where
    up : (k : ℕ) → InRow row start n y k ⊎ ((k ≡ y) × (e ≡ 1)) → InRow row start n (y + 1) k
    up k (inl (inl a)) = inl a
    up k (inl (inr a)) = inr (omega (arith, a.0), a.1)
    up k (inr a) = inr (omega (arith, a.0), rw (a.0, ← q) a.1)

    down : (k : ℕ) → InRow row start n (y + 1) k → InRow row start n y k ⊎ ((k ≡ y) × (e ≡ 1))
    down k (inl a) = inl (inl a)
    down k (inr a) = by (ℕ_discrete k y)
      where
        by : Dec (k ≡ y) → InRow row start n y k ⊎ ((k ≡ y) × (e ≡ 1))
        by (yes b) = inr (b, rw (q, ← b) a.1)
        by (no b) = inl (inr (omega (arith, a.0), a.1))

module _ {row : Row} {start n r : ℕ} (s : RowSet row start n n r) where
  pub row_entry : (k : ℕ) → k < n → bit_of r k ≡ eqb (get_or row.entries k 0) 1
  row_entry k h = exactly_same (exactly_iff (up, (λ e. inr (h, e))) (s.is k)) (exactly_eq (get_or row.entries k 0) 1)
    where
      up : InRow row start n n k → get_or row.entries k 0 ≡ 1
      up (inl e) = absurd (omega (arith, e.0))
      up (inr p) = p.1

  pub row_start_lem : bit_of r n ≡ eqb start 1
  row_start_lem = exactly_same (exactly_iff (up, (λ e. inl (refl, e))) (s.is n)) (exactly_eq start 1)
    where
      up : InRow row start n n n → start ≡ 1
      up (inl e) = e.1
      up (inr p) = absurd (omega (arith, p.0))

-- The first x rows are sets.
pub record LaidRows (c : Code) (x : ℕ) (rows : List ℕ) : Type 0 where
  pub long : limits.words ≤ length rows
  pub sets : (k : ℕ) → k < x → RowSet (get_or c.rows k no_row) (get_or c.begins k 0) c.count c.count (get_or rows k 0)

pub rows_none : (c : Code) {rows : List ℕ} → limits.words ≤ length rows → LaidRows c 0 rows
rows_none c h = record { long = h; sets = λ k l. absurd (omega arith) }

pub rows_more : {c : Code} {x v : ℕ} {rows : List ℕ} → LaidRows c x rows → x < limits.words → RowSet (get_or c.rows x no_row) (get_or c.begins x 0) c.count c.count v
    → LaidRows c (x + 1) (set rows x v)
rows_more {c} {x} {v} {rows} l h s = record {
  long = simp length-set l.long;
  sets = on_push rows x v (omega (arith, l.long)) (λ k r. RowSet (get_or c.rows k no_row) (get_or c.begins k 0) c.count c.count r) s l.sets;
}
