-- What the layers of pairs of words that may both begin show of the shortest ambiguous message is so.
use Rattle.std.specs.Prelude.{◌≡◌, true, not, List, ◌⊎◌, ℕ, ◌≤◌, ◌<◌, length}
use Rattle.std.proofs.Common.{sym, ◌∙◌, subst, inl, inr, arith}
use Rattle.std.proofs.Math.Bool.{Bool}
use Rattle.std.proofs.lemmas.Bool.{false≢true, not-true}
use Rattle.std.proofs.Math.Decide.{dec_le}
use Rattle.code.specs.Definitions.Tables.{Table}
use Rattle.code.specs.Definitions.Orders.{Shortlex, shorter}
use Rattle.code.specs.Definitions.Readings.{FirstTwo, Ambiguous}
use Rattle.code.specs.Laws.Below.{or_cases}
use Rattle.code.specs.Laws.Readings.{first_two_readings}
use Rattle.pair_theory.specs.Places.{Plain, TwoEnds}
use Rattle.pair_theory.specs.Ambiguity.{Stripped, at_most, readings→ends, ambiguous}
use Rattle.cases.specs.Comparing.{not_before, not_before_true}
use Rattle.cases.proofs.Starts.{beginnings_listed}
use Rattle.cases.specs.Layers.{labelled}
use Rattle.cases.proofs.Layers.{pair_passes}
use Rattle.cases.specs.Ends.{apart_ends, apart_ends_lem}
use Rattle.cases.specs.Messages.{ends_not_before, least_is}

module _ (t : Table) where
  -- Where m passes the check, symbols that reach two ends are m or come after m.
  least_means : (m : List ℕ) → least_is t m ≡ true → (n : List ℕ) → TwoEnds t n → (m ≡ n) ⊎ Shortlex m n
  unfolding least_is
  least_means m e n h = by (dec_le (length n) (length m))
    where
      two : Bool
      two = apart_ends t (labelled n h.p h.q)

      late : (not two ≡ true) ⊎ (not_before m n ≡ true) → (m ≡ n) ⊎ Shortlex m n
      late (inl z) = absurd (false≢true (sym (not-true _ z) ∙ apart_ends_lem t n (record { left = h.left_ends; right = h.right_ends; apart = h.apart })))
      late (inr z) = not_before_true m n z

      by : Dec (length n ≤ length m) → (m ≡ n) ⊎ Shortlex m n
      by (yes l) = late (or_cases (not two) (not_before m n) (pair_passes t (beginnings_listed t) (ends_not_before t m) (length m) e h.pair l))
      by (no l) = inr (shorter (omega arith))

  -- So if m has two readings it reaches two ends itself.
  least_ends : {m : List ℕ} → ((n : List ℕ) → TwoEnds t n → (m ≡ n) ⊎ Shortlex m n) → (z : Stripped t m) → (z.m ≡ m) ⊎ (length z.m < length m) → TwoEnds t m
  least_ends f z (inl e) = subst (TwoEnds t) e z.ends
  least_ends {m} f z (inr l) = absurd (omega (arith, at_most m z.m (f z.m z.ends)))

  -- A message that passes the check, with its first two readings, shows that the code is ambiguous.
  pub ambiguous_means : Plain t → {m s u : List ℕ} → least_is t m ≡ true → FirstTwo t m s u → Ambiguous t m s u
  ambiguous_means plain {m} e f =
      let least = least_means m e in
      let z = readings→ends plain (first_two_readings f) in
      ambiguous plain (record { ends = least_ends least z z.order; least = least }) f
