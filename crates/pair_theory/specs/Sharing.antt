-- The delay from the compatible pairs. In a decipherable code two sequences that part behind a shared opening share their next N symbols exactly if some N
-- symbols reach a compatible pair of rivals: a message shorter than N counts whole, so it would be equal to the other one, and with the opening the code
-- would have two readings of one message.
use Rattle.std.specs.Prelude.{◌≡◌, refl, List, ◌∷◌, ◌↔◌, ℕ, zero, suc, ◌≤◌, ◌<◌, length, take}
use Rattle.std.proofs.Common.{sym, ◌∙◌, subst, arith, length-take}
use Rattle.std.proofs.Math.Decide.{dec_le}
use Rattle.code.specs.Definitions.Tables.{Table, size, message}
use Rattle.code.specs.Definitions.Readings.{Decipherable}
use Rattle.code.specs.Definitions.Delays.{SharePrefix, Delay, WithoutBound}
use Rattle.code.proofs.Laws.Delays.{share_fewer, rivals_share}
use Rattle.code.specs.Laws.Openings.{open_rivals}
use Rattle.code.proofs.Laws.Openings.{rivals→share}
use Rattle.code.specs.Laws.Sequences.{first_word, shorter_whole}
use Rattle.pair_theory.specs.Places.{first_place, Plain, Path, Parting, PairAfter, LongestPath}
use Rattle.pair_theory.specs.Paths.{along, sequence_from}
use Rattle.pair_theory.specs.Ambiguity.{parted_differ}

-- Two different words that may both begin, or both follow the last word of one permitted sequence.
pub record SomeParting (t : Table) : Type 0 where
  pub x : ℕ
  pub y : ℕ
  pub left_known : x < size t
  pub right_known : y < size t
  pub parting : Parting t x y

module _ {t : Table} where
  abbrev share_swap : {N : ℕ} → SharePrefix t N → SharePrefix t N
  share_swap h = record {
    o = h.o;
    x = h.y;
    s = h.u;
    y = h.x;
    u = h.s;
    left = h.right;
    right = h.left;
    differ = λ e. h.differ (sym e);
    share = sym h.share;
  }

module _ {t : Table} (plain : Plain t) where
  -- A compatible pair of N symbols gives two sequences that share them behind an opening.
  pub pair→share : {N : ℕ} → PairAfter t N → SharePrefix t N
  pair→share {N} h =
      let a = sequence_from t plain h.pair.left_known h.pair.left in
      let b = sequence_from t plain h.pair.right_known h.pair.right in
      let x = h.pair.x in
      let y = h.pair.y in
      rivals→share plain.free (record {
        x = x;
        s = a.s;
        y = y;
        u = b.s;
        parted = record { left = a.linked; right = b.linked; rivals = h.pair.starts.rivals };
        differ = h.pair.starts.differ;
        share = subst (λ (n : ℕ). take n (message t (x ∷ a.s)) ≡ take n (message t (y ∷ b.s))) h.long (a.starts ∙ sym b.starts);
      })

  module _ (d : Decipherable t) where
    long_enough : {N : ℕ} (h : SharePrefix t N) → N ≤ length (message t (h.x ∷ h.s))
    long_enough {N} h = go (dec_le N (length (message t (h.x ∷ h.s))))
      where
        go : Dec (N ≤ length (message t (h.x ∷ h.s))) → N ≤ length (message t (h.x ∷ h.s))
        go (yes l) = l
        go (no l) = absurd (parted_differ d h.o h.x h.y h.s h.u h.left h.right h.differ (shorter_whole N _ _ h.share l))

    -- Two sequences that share N symbols behind an opening, at least one, give a compatible pair of N symbols.
    pub share→pair : {N : ℕ} → 1 ≤ N → SharePrefix t N → PairAfter t N
    share→pair {N} o h =
        let r = open_rivals h.o h.left h.right in
        let l = long_enough h in
        let a = along t plain N h.x h.s r.left o l in
        let b = along t plain N h.y h.u r.right o (long_enough (share_swap h)) in
        record {
          m = take N (message t (h.x ∷ h.s));
          p = a.q;
          q = b.q;
          pair = record {
            x = h.x;
            y = h.y;
            left_known = first_word r.left;
            right_known = first_word r.right;
            starts = record { differ = h.differ; rivals = r.rivals };
            left = a.path;
            right = subst (λ (z : List ℕ). Path t (first_place h.y) z b.q) (sym h.share) b.path;
          };
          long = simp length-take (omega arith);
        }

    -- Two sequences that part behind an opening share N symbols exactly if N symbols reach a compatible pair.
    pub share_iff : {N : ℕ} → 1 ≤ N → SharePrefix t N ↔ PairAfter t N
    share_iff o = (share→pair o, pair→share)

  shared : SomeParting t → (r : ℕ) → LongestPath t r → SharePrefix t r
  shared h zero l = rivals_share plain.free h.left_known h.right_known h.parting.differ h.parting.rivals
  shared h (suc k) l = pair→share (l.some k refl)

  -- The delay of a decipherable code in which two words part is one more than the longest path.
  pub delay : Decipherable t → SomeParting t → {r : ℕ} → LongestPath t r → Delay t (suc r)
  delay d h {r} l = record {
    enough = λ s. omega (arith, l.most (suc r) (share→pair d (omega arith) s));
    needed = λ M e. subst (SharePrefix t) (omega arith) (shared h r l);
  }

  -- Where every number of symbols reaches a compatible pair, no number of symbols is enough.
  pub without_bound_lem : ((k : ℕ) → PairAfter t (suc k)) → WithoutBound t
  without_bound_lem f zero = share_fewer (omega arith) (pair→share (f 0))
  without_bound_lem f (suc k) = pair→share (f k)
