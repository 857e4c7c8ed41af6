-- The cell of a pair of places, for every number s of places: the pairs stand row by row, a row for each lower place. No number is written for the width of a row.
use Rattle.std.specs.Prelude.{◌≡◌, ℕ, ◌+◌, ◌*◌, ◌/◌, ◌%◌, ◌≤◌, ◌<◌}
use Rattle.std.proofs.Math.Path.{ap}
use Rattle.std.proofs.Common.{◌∙◌, add_comm, le_refl, div-lt_iff_lt-mul}
use Rattle.std.proofs.Math.Nat.{add-mul, one-mul, mul-le-mul, add-mul-div_right, add-mul-mod_self_right, div-eq_of_lt, mod-eq_of_lt, mod-lt, div-add-mod'}
use native.Mathlib.Omega.{arith}

module _ (s : ℕ) where
  unfoldable pub cell_of : ℕ → ℕ → ℕ
  cell_of low high = low * s + high

  -- The two places of a cell. They are named in proofs alone: no function works them out.
  unfoldable pub low_of : ℕ → ℕ
  low_of v = v / s

  unfoldable pub high_of : ℕ → ℕ
  high_of v = v % s

  module _ (low high : ℕ) (h : high < s) where
    pub low_cell : low_of (cell_of low high) ≡ low
    unfolding cell_of low_of
    low_cell = ap (λ (v : ℕ). v / s) (add_comm (low * s) high) ∙ add-mul-div_right high low (omega arith) ∙ rw (div-eq_of_lt h) (omega arith)

    pub high_cell : high_of (cell_of low high) ≡ high
    unfolding cell_of high_of
    high_cell = ap (λ (v : ℕ). v % s) (add_comm (low * s) high) ∙ add-mul-mod_self_right high low s ∙ mod-eq_of_lt h

    pub cell_below : low < s → cell_of low high < s * s
    unfolding cell_of
    cell_below l =
        let whole : (low + 1) * s ≤ s * s = mul-le-mul (omega arith) (le_refl s) in
        omega (arith, add-mul low 1 s, one-mul s)

  pub cell_back : (v : ℕ) → cell_of (low_of v) (high_of v) ≡ v
  unfolding cell_of low_of high_of
  cell_back v = div-add-mod' v s

  pub low_below : (v : ℕ) → 0 < s → v < s * s → low_of v < s
  unfolding low_of
  low_below v some l = (div-lt_iff_lt-mul {x = v} {y = s} some).1 l

  pub high_below : (v : ℕ) → 0 < s → high_of v < s
  unfolding high_of
  high_below v some = mod-lt v some

  -- With the number after the last as its lower place, a pair is past every cell.
  pub cell_past : (low high : ℕ) → s ≤ low → s * s ≤ cell_of low high
  unfolding cell_of
  cell_past low high l = let whole : s * s ≤ low * s = mul-le-mul l (le_refl s) in omega arith
