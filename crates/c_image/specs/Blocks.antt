-- Elements laid out one behind another, as blocks of one width: how a run of blocks is stored, where each block stands, and what a list of bytes parts into.
use Rattle.std.specs.Prelude.{◌≡◌, length, take, get_or}
use Rattle.std.proofs.Math.Path.{refl, sym, ap}
use Rattle.std.proofs.Common.{◌∙◌, arith, add-one, take-suc, get_or-append-add, drop-drop}
use mathlib.Core.List.{List, [], ◌∷◌, ◌++◌, append_assoc, append-nil, flat_map}
use Prim.Native.Nat.{ℕ, zero, suc, ◌+◌, ◌*◌, ◌≤◌, ◌<◌}
use Rattle.std.proofs.Math.Nat.{suc-mul, zero-mul}
use Rattle.std.proofs.Math.ListN.{drop, length-append, get_or-append}
use Rattle.std.proofs.lemmas.List.Edits.{sets}
use Rattle.std.proofs.Math.Seq.{split_at, take-add}
use Rattle.code.specs.Definitions.Lists.{tabulate}
use Rattle.copying.specs.Runs.{sets_behind}

module _ {A : Type 0} (f : A → List ℕ) where
  pub blocks_append : (xs ys : List A) → flat_map f (xs ++ ys) ≡ flat_map f xs ++ flat_map f ys
  unfolding flat_map
  blocks_append [] ys = refl
  blocks_append (x ∷ xs) ys = rw (blocks_append xs ys, append_assoc)

  blocks_one : (xs : List A) (x : A) → flat_map f (xs ++ (x ∷ [])) ≡ flat_map f xs ++ f x
  unfolding flat_map
  blocks_one xs x = blocks_append xs (x ∷ []) ∙ rw append-nil

  module _ (d : A) (width : ℕ) (xs : List A) (wide : (k : ℕ) → k < length xs → length (f (get_or xs k d)) ≡ width) where
    pub blocks_length : (k : ℕ) → k ≤ length xs → length (flat_map f (take k xs)) ≡ k * width
    unfolding flat_map
    blocks_length zero h = sym (zero-mul width)
    blocks_length (suc k) h =
        rw (take-suc xs k d (omega arith), blocks_one (take k xs) (get_or xs k d), length-append (flat_map f (take k xs)) (f (get_or xs k d)), blocks_length k (omega arith), wide k (omega arith), suc-mul)

    -- One block more.
    pub blocks_next : (b : List ℕ) (at i k : ℕ) → i ≡ at + k * width → k < length xs
        → sets (sets b at (flat_map f (take k xs))) i (f (get_or xs k d)) ≡ sets b at (flat_map f (take (k + 1) xs))
    blocks_next b at i k e h =
        rw (add-one k, take-suc xs k d h, blocks_one (take k xs) (get_or xs k d))
        (sets_behind (flat_map f (take k xs)) (f (get_or xs k d)) b at i (omega (arith, blocks_length k (omega arith))))

    -- Block k begins at k times the width.
    pub block_at : (rest : List ℕ) (k j : ℕ) → k < length xs → j < width → get_or (flat_map f xs ++ rest) (k * width + j) 0 ≡ get_or (f (get_or xs k d)) j 0
    unfolding flat_map
    block_at rest k j h i =
        let parts : flat_map f xs ≡ flat_map f (take k xs) ++ (f (get_or xs k d) ++ flat_map f (drop (suc k) xs)) =
        ap (flat_map f) (split_at xs k d h) ∙ blocks_append (take k xs) (get_or xs k d ∷ drop (suc k) xs) in
        let later : List ℕ = flat_map f (drop (suc k) xs) ++ rest in
        rw (parts, append_assoc, append_assoc, ← blocks_length k (omega arith))
        (get_or-append-add (flat_map f (take k xs)) (f (get_or xs k d) ++ later) j 0 ∙ get_or-append (f (get_or xs k d)) later 0 j (omega (arith, wide k h)))

  -- Bytes that part into blocks of one width are those blocks, joined.
  pub blocks_tabulate : (g : ℕ → A) (width at n : ℕ) (b : List ℕ) → ((k : ℕ) → k < n → f (g k) ≡ take width (drop (at + k * width) b))
      → flat_map f (tabulate g n) ≡ take (n * width) (drop at b)
  unfolding flat_map tabulate
  blocks_tabulate g width at zero b same = rw zero-mul
  blocks_tabulate g width at (suc n) b same =
      blocks_one (tabulate g n) (g n)
      ∙ rw (blocks_tabulate g width at n b (λ k h. same k (omega arith)), same n (omega arith), suc-mul, take-add, drop-drop)
