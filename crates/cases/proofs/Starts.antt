-- The lists of the pairs of words from whose first places layers start have exactly these.
use Rattle.std.specs.Prelude.{◌≡◌, Bool, true, not, ◌↔◌, ℕ, ◌<◌, eqb}
use Rattle.std.proofs.Math.Path.{subst}
use Rattle.std.proofs.Math.Bool.{and-eq-true_iff}
use mathlib.Core.List.Memᴰ
use mathlib.Core.List.{Memᴰ}
use Rattle.std.proofs.lemmas.Bool.{eqb-false, not-true}
use Rattle.std.proofs.Common.{ne_eqb}
use Rattle.code.specs.Definitions.Tables.{Table, size}
use Rattle.pair_theory.specs.Places.{Parting, Beginning}
use Rattle.cases.specs.Members.{keep, keep_in, keep_out, numbers, numbers_in, numbers_out, flat_map_in, flat_map_out}
use Rattle.cases.specs.Rivals.{both_begin, are_rivals}
use Rattle.cases.proofs.Rivals.{rivals_test}
use Rattle.cases.specs.Starts.{WordPair, word_pair, pairs_with, word_pairs, different_rivals, partings, beginnings, Starting, Lists}

module _ (t : Table) where
  module _ {S : ℕ → ℕ → Type 0} (f : ℕ → ℕ → Bool) (test : (x y : ℕ) → (f x y ≡ true) ↔ S x y) where
    pairs_out : (x : ℕ) {a : WordPair} → x < size t → Memᴰ a (pairs_with t f x) → Starting t S a
    unfolding pairs_with
    pairs_out x h m =
        let b = Memᴰ.of_map (word_pair x) (keep (f x) (numbers (size t))) m in
        let o = keep_out (f x) (numbers (size t)) b.1 in
        subst (Starting t S) b.2 (record { left_known = h; right_known = numbers_out (size t) o.0; starts = (test x b.0).0 o.1 })

    -- The pairs of words that pass are those of S.
    word_pairs_lem : Lists t S (word_pairs t f)
    unfolding word_pairs pairs_with
    word_pairs_lem = record {
      sound = λ a m. let s = flat_map_out (pairs_with t f) (numbers (size t)) m in pairs_out s.a (numbers_out (size t) s.member) s.gives;
      complete = λ a p.
          flat_map_in (pairs_with t f) (numbers_in (size t) p.left_known)
          (Memᴰ.map (word_pair a.x) (keep_in (f a.x) (numbers_in (size t) p.right_known) ((test a.x a.y).1 p.starts)));
    }

  parting_test : (x y : ℕ) → (different_rivals t x y ≡ true) ↔ Parting t x y
  parting_test x y = (
    λ e. let a = (and-eq-true_iff (not (eqb x y)) (are_rivals t x y)).0 e in record { differ = eqb-false x y (not-true _ a.0); rivals = (rivals_test t x y).0 a.1 },
    λ p. rw (ne_eqb x y p.differ) ((rivals_test t x y).1 p.rivals),
  )

  beginning_test : (x y : ℕ) → (both_begin t x y ≡ true) ↔ Beginning t x y
  beginning_test x y = (
    λ e. let a = (and-eq-true_iff (t.begins x) (t.begins y)).0 e in record { left = a.0; right = a.1 },
    λ b. (and-eq-true_iff (t.begins x) (t.begins y)).1 (b.left, b.right),
  )

  -- The list has the pairs of different words that are rivals, and no other;
  pub partings_listed : Lists t (Parting t) (partings t)
  unfolding partings
  partings_listed = word_pairs_lem (different_rivals t) parting_test

  -- and this one has those that may both begin.
  pub beginnings_listed : Lists t (Beginning t) (beginnings t)
  unfolding beginnings
  beginnings_listed = word_pairs_lem (both_begin t) beginning_test
