-- What the layers of pairs of rivals show of the delay is so.
use Rattle.std.specs.Prelude.{◌≡◌, refl, ◌&&◌, List}
use Rattle.std.proofs.Common.{sym, ◌∙◌}
use Rattle.std.proofs.Math.Bool.{true, not, and-eq-true_iff}
use Rattle.std.proofs.lemmas.Bool.{false≢true, not-true}
use Prim.Native.Nat.{ℕ, zero, suc, ◌≤◌, ◌<◌}
use Rattle.std.proofs.Math.Decide.{dec_le}
use native.Mathlib.Omega.{arith}
use Rattle.std.proofs.Math.ListN.{length}
use Rattle.code.specs.Definitions.Tables.{Table, size}
use Rattle.code.specs.Definitions.Readings.{Decipherable}
use Rattle.code.specs.Definitions.Delays.{Delay, WithoutBound}
use Rattle.code.proofs.Laws.Delays.{no_rivals_delay}
use Rattle.pair_theory.specs.Places.{Place, Plain, BothEnd, Parting, Compatible, PairAfter, LongestPath}
use Rattle.pair_theory.specs.Partings.{PartingEnds, parting_decipherable}
use Rattle.pair_theory.specs.Sharing.{SomeParting, delay, without_bound_lem}
use Rattle.pair_theory.specs.Walks.{walk_cut, pair_iff}
use Rattle.pair_theory.specs.Finite.{pair_count}
use Rattle.pair_theory.specs.Lengths.{short_parting_ends, endless}
use Rattle.cases.specs.Members.{empty_none, some_member}
use Rattle.cases.specs.Starts.{word_pair, partings}
use Rattle.cases.proofs.Starts.{partings_listed}
use Rattle.cases.specs.Layers.{layer}
use Rattle.cases.proofs.Layers.{layer_in, layer_out, pair_passes}
use Rattle.cases.specs.Ends.{both_end_lem}
use Rattle.cases.specs.Delays.{no_partings, is_empty, not_both_end, no_two_ends, some_before, longest_is, delay_is, is_without_bound}

module _ (t : Table) where
  no_parting : no_partings t ≡ true → (x y : ℕ) → x < size t → y < size t → Parting t x y → ⊥
  unfolding no_partings
  no_parting e x y h k p = empty_none e ((partings_listed t).complete (word_pair x y) (record { left_known = h; right_known = k; starts = p }))

  some_parting : not (no_partings t) ≡ true → SomeParting t
  unfolding no_partings
  some_parting e =
      let s = some_member (partings t) (not-true _ e) in
      let w = (partings_listed t).sound s.a s.member in
      record { x = s.a.x; y = s.a.y; left_known = w.left_known; right_known = w.right_known; parting = w.starts }

  some_pair : (k : ℕ) → not (is_empty t k) ≡ true → PairAfter t (suc k)
  unfolding is_empty
  some_pair k e =
      let s = some_member (layer t (partings t) k) (not-true _ e) in
      let h = layer_out t (partings_listed t) k s.member in
      record { m = s.a.label; p = s.a.p; q = s.a.q; pair = h.0; long = h.1 }

  no_pair_lem : (k : ℕ) → is_empty t k ≡ true → PairAfter t (suc k) → ⊥
  unfolding is_empty
  no_pair_lem k e h = empty_none e (layer_in t (partings_listed t) h.pair h.long)

  -- Where layer r is empty, at most r symbols reach a pair.
  empty_most : (r : ℕ) → is_empty t r ≡ true → (k : ℕ) → PairAfter t k → k ≤ r
  empty_most r e zero h = omega arith
  empty_most r e (suc n) h = by (dec_le (suc n) r)
    where
      by : Dec (suc n ≤ r) → suc n ≤ r
      by (yes l) = l
      by (no l) =
          let z = pair_iff.0 h in
          absurd (no_pair_lem r e (pair_iff.1 (record { p = z.p; q = z.q; first = z.first; further = walk_cut z.further.walk r (omega arith) })))

  -- Where no pair of the layers below n is one of two ends, more than n symbols reach two ends if any do.
  ends_later : (n : ℕ) → no_two_ends t n ≡ true → {m : List ℕ} {p q : Place} → Compatible t (Parting t) m p q → BothEnd t p q → n < length m
  unfolding no_two_ends
  ends_later n e {m} h b = by (dec_le (length m) n)
    where
      by : Dec (length m ≤ n) → n < length m
      by (yes l) = absurd (false≢true (sym (not-true _ (pair_passes t (partings_listed t) (not_both_end t) n e h l)) ∙ both_end_lem t m b))
      by (no l) = omega arith

  longest_some : (r : ℕ) → some_before t r ≡ true → (k : ℕ) → r ≡ suc k → PairAfter t r
  unfolding some_before
  longest_some zero e k h = absurd (omega arith)
  longest_some (suc n) e k h = some_pair n e

  ends_pair : (h : PartingEnds t) → PairAfter t (length h.m)
  ends_pair h = record { m = h.m; p = h.p; q = h.q; pair = h.pair; long = refl }

  -- The longest path that passes the check is the longest, and no compatible pair of rivals is one of two ends.
  longest_means : (r : ℕ) → longest_is t r ≡ true → LongestPath t r × (PartingEnds t → ⊥)
  unfolding longest_is
  longest_means r e =
      let a = (and-eq-true_iff (no_two_ends t r) (is_empty t r && some_before t r)).0 e in
      let b = (and-eq-true_iff (is_empty t r) (some_before t r)).0 a.1 in
      let most = empty_most r b.0 in (
        record { some = longest_some r b.1; most = most },
        λ h. omega (arith, ends_later r a.0 h.pair (record { left = h.left_ends; right = h.right_ends }), most (length h.m) (ends_pair h)),
      )

  module _ (plain : Plain t) where
    -- A delay that passes the check is the delay, of a decipherable code.
    pub delay_means : (N : ℕ) → delay_is t N ≡ true → Decipherable t × Delay t N
    unfolding delay_is
    delay_means zero e =
        let none = no_parting e in (
          parting_decipherable plain (λ h. none _ _ h.pair.left_known h.pair.right_known h.pair.starts),
          no_rivals_delay (λ x y h k d r. none x y h k (record { differ = d; rivals = r })),
        )
    delay_means (suc r) e =
        let a = (and-eq-true_iff (not (no_partings t)) (longest_is t r)).0 e in
        let l = longest_means r a.1 in
        let d = parting_decipherable plain l.1 in
        (d, delay plain d (some_parting a.0) l.0)

    -- A code that passes the check is decipherable without bound.
    pub without_bound_means : is_without_bound t ≡ true → Decipherable t × WithoutBound t
    unfolding is_without_bound
    without_bound_means e =
        let n = pair_count t in
        let a = (and-eq-true_iff (no_two_ends t n) (not (is_empty t n))).0 e in
        let none : PartingEnds t → ⊥ = λ h. let s = short_parting_ends plain h in omega (arith, s.short, ends_later n a.0 s.pair s.meets) in
        (parting_decipherable plain none, without_bound_lem plain (endless plain (omega arith) (some_pair n a.1)))
