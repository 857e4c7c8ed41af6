-- A clear list has a clear mark for each cell, and so has each part of it that is long enough.
use Rattle.std.specs.Prelude.{◌≡◌, List, ℕ, ◌+◌, ◌-◌, ◌≤◌, take, replicate}
use Rattle.std.proofs.Common.{sym, arith, take_at}
use Rattle.std.proofs.lemmas.List.{length-replicate, replicate-append-replicate}
use Rattle.pair_places.specs.Flat.{cell_count}
use Rattle.pair_storage.specs.Marks.{marks, marks_clear}

pub clear_part : (n m : ℕ) → n ≤ m → ◌≡◌ {A = List ℕ} (take n (replicate m 0)) (replicate n 0)
clear_part n m l =
    let e : n + (m - n) ≡ m = omega arith in
    let z : List ℕ = replicate n 0 in
    rw (sym (rw e at (replicate-append-replicate {A = ℕ} n (m - n) 0))) (take_at z (replicate (m - n) 0) n (length-replicate n 0))

pub clear_marks : (f : List ℕ) (n : ℕ) → cell_count f ≤ n → marks f (replicate n 0) ≡ replicate (cell_count f) 0
clear_marks f n l = marks_clear f (replicate n 0) (clear_part (cell_count f) n l)
