-- Whether a pair is one of two ends, and whether these are the ends of different words, as tests that compute.
use Rattle.std.specs.Prelude.{◌≡◌, refl, Bool, true, not, ◌&&◌, List, ℕ, eqb}
use Rattle.std.proofs.Math.Bool.{and-eq-true_iff}
use Rattle.std.proofs.Common.{eq-eqb, ne_eqb}
use Rattle.code.specs.Definitions.Tables.{Table}
use Rattle.pair_theory.specs.Places.{Place, BothEnd, ApartEnds}
use Rattle.pair_theory.specs.Ends.{ends_same}
use Rattle.pair_theory.specs.Bounded.{is_end}
use Rattle.cases.specs.Layers.{LabelledPair, labelled}

module _ (t : Table) where
  abbrev pub both_end : LabelledPair → Bool
  both_end e = is_end t e.p && is_end t e.q

  abbrev pub apart_ends : LabelledPair → Bool
  apart_ends e = both_end e && not (eqb e.p.w e.q.w)

  -- Two ends pass the test.
  pub both_end_lem : (m : List ℕ) {p q : Place} → BothEnd t p q → both_end (labelled m p q) ≡ true
  both_end_lem m {p} {q} h = (and-eq-true_iff (is_end t p) (is_end t q)).1 (eq-eqb _ _ h.left, eq-eqb _ _ h.right)

  -- The ends of different words pass the test.
  pub apart_ends_lem : (m : List ℕ) {p q : Place} → ApartEnds t p q → apart_ends (labelled m p q) ≡ true
  apart_ends_lem m {p} {q} h =
      let both = both_end_lem m {p = p} {q = q} (record { left = h.left; right = h.right }) in
      rw (both, ne_eqb p.w q.w (λ e. h.apart (ends_same t h.left h.right e))) refl
