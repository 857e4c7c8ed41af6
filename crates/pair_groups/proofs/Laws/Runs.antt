-- A group is found by scanning: a run of entries with one key grows until the next key differs.
use mathlib.Core.Path.{◌≡◌, sym, ◌∙◌}
use mathlib.Core.List.{List}
use Prim.Native.Nat.{ℕ, ◌+◌, ◌≤◌, ◌<◌}
use native.Mathlib.Omega.{arith}
use lib.ListN.{get_or}
use borrow.Author.Count.{below_more}
use Rattle.graph.specs.Graph.{Graph}
use Rattle.pair_places.specs.Flat.{Laid}
use Rattle.pair_places.specs.Opens.{open_graph}
use Rattle.pair_slots.specs.Ensured.{key_of}
use Rattle.pair_groups.specs.Queue.{key, Ascending, IsGroup}

-- Entries a to b - 1 have one key.
pub record Run (g : Graph) (q : List ℕ) (tail a b : ℕ) : Type 0 where
  pub some : a < b
  pub ends : b ≤ tail
  pub same : (i : ℕ) → a ≤ i → i < b → key g q i ≡ key g q a

module _ {g : Graph} {q : List ℕ} {tail a : ℕ} where
  pub run_one : a < tail → Run g q tail a (a + 1)
  run_one l = record { some = omega arith; ends = omega arith; same = λ i p d. let e : i ≡ a = omega arith in rw e }

  module _ {b : ℕ} (r : Run g q tail a b) where
    pub run_more : b < tail → key g q b ≡ key g q a → Run g q tail a (b + 1)
    run_more l e =
        let s = r.some in
        record {
          some = omega arith;
          ends = omega arith;
          same = λ i p d. below_more (λ j. a ≤ j → key g q j ≡ key g q a) b (λ j x y. r.same j y x) (λ x. e) i d p;
        }

    -- A run that cannot grow is a group.
    pub run_end : Ascending g q tail → (b < tail → key g q b ≡ key g q a → ⊥) → IsGroup g q tail a b
    run_end s h =
        record {
          some = r.some;
          ends = r.ends;
          same = r.same;
          after = λ i p l.
              let x = s.keys b i p l in
              let y = s.keys a b (let d = r.some in omega arith) (omega arith) in
              let n = h (omega arith) in
              omega (arith, n);
        }

-- The scan for a group's end: the next key is the same, or differs, or there is none.
module _ {f q : List ℕ} {tail a b : ℕ} (laid : Laid f) (s : Ascending (open_graph f) q tail) (r : Run (open_graph f) q tail a b) where
  pub group_more : {x y : ℕ} → x ≡ key_of f (get_or q b 0) → y ≡ key_of f (get_or q a 0) → x ≡ y → b < tail → Run (open_graph f) q tail a (b + 1)
  group_more d e z l = run_more r l (sym d ∙ z ∙ e)

  pub group_differs : {x y : ℕ} → x ≡ key_of f (get_or q b 0) → y ≡ key_of f (get_or q a 0) → (x ≡ y → ⊥) → IsGroup (open_graph f) q tail a b
  group_differs d e n = run_end r s (λ l z. n (d ∙ z ∙ sym e))

  pub group_last : tail ≤ b → IsGroup (open_graph f) q tail a tail
  group_last h = let e : b ≡ tail = let l = r.ends in omega arith in rw e at (run_end r s (λ l. absurd (omega arith)))
