-- Two tables of the same words that permit the same sequences are alike in all that is said of a code: readings, ambiguity, delay and verdict.
use Rattle.std.specs.Prelude.{◌≡◌, refl, List, [], ◌∷◌, ◌++◌, ◌↔◌, ℕ, length, take, get_or}
use Rattle.std.proofs.Common.{sym, ap, ap₂, ◌∙◌}
use Rattle.code.specs.declared.Verdict.{Verdict}
use Rattle.code.specs.declared.Verdict.TheVariants.{Ambiguous as Two-ways, Finite, Unbounded}
use Rattle.code.specs.Definitions.Tables.{Table, size, Permitted, message}
use Rattle.code.specs.Definitions.Readings.{Reads, NoReading, OnlyReading, FirstTwo, TwoReadings, Ambiguous, Decipherable}
use Rattle.code.specs.Definitions.Delays.{SharePrefix, Delay, WithoutBound}
use Rattle.code.specs.Definitions.Answers.{VerdictMeans}

pub record Alike (t u : Table) : Type 0 where
  pub words : t.words ≡ u.words
  pub permitted : (s : List ℕ) → Permitted t s ↔ Permitted u s

pub alike_back : {t u : Table} → Alike t u → Alike u t
alike_back a = record { words = sym a.words; permitted = λ s. ((a.permitted s).1, (a.permitted s).0) }

pub alike_on : {t u v : Table} → Alike t u → Alike u v → Alike t v
alike_on a b = record {
  words = a.words ∙ b.words;
  permitted = λ s. (λ p. (b.permitted s).0 ((a.permitted s).0 p), λ p. (a.permitted s).1 ((b.permitted s).1 p));
}

module _ {t u : Table} (a : Alike t u) where
  pub same_size : size t ≡ size u
  same_size = ap length a.words

  -- Every sequence has the same message, permitted or not.
  pub same_message : (s : List ℕ) → message t s ≡ message u s
  same_message [] = refl
  same_message (x ∷ s) = ap₂ ◌++◌ (ap (λ (ws : List (List ℕ)). get_or ws x []) a.words) (same_message s)

  alike_reads : {m s : List ℕ} → Reads t m s → Reads u m s
  alike_reads {s = s} r = record { permitted = (a.permitted s).0 r.permitted; joined = sym (same_message s) ∙ r.joined }

  alike_two : {m : List ℕ} → TwoReadings t m → TwoReadings u m
  alike_two r = record { s = r.s; u = r.u; first = alike_reads r.first; second = alike_reads r.second; differ = r.differ }

  alike_share : {N : ℕ} → SharePrefix t N → SharePrefix u N
  alike_share {N} h = record {
    o = h.o;
    x = h.x;
    s = h.s;
    y = h.y;
    u = h.u;
    left = (a.permitted (h.o ++ (h.x ∷ h.s))).0 h.left;
    right = (a.permitted (h.o ++ (h.y ∷ h.u))).0 h.right;
    differ = h.differ;
    share = ap (take N) (sym (same_message (h.x ∷ h.s))) ∙ h.share ∙ ap (take N) (same_message (h.y ∷ h.u));
  }

-- One way round
module _ {t u : Table} (a : Alike t u) where
  alike_none : {m : List ℕ} → NoReading t m → NoReading u m
  alike_none n s r = n s (alike_reads (alike_back a) r)

  alike_only : {m s : List ℕ} → OnlyReading t m s → OnlyReading u m s
  alike_only o = record { reads = alike_reads a o.reads; only = λ v r. o.only v (alike_reads (alike_back a) r) }

  alike_first_two : {m s v : List ℕ} → FirstTwo t m s v → FirstTwo u m s v
  alike_first_two f = record {
    first = alike_reads a f.first;
    second = alike_reads a f.second;
    order = f.order;
    later = λ v r. f.later v (alike_reads (alike_back a) r);
  }

  alike_ambiguous : {m s v : List ℕ} → Ambiguous t m s v → Ambiguous u m s v
  alike_ambiguous h = record { readings = alike_first_two h.readings; least = λ n r. h.least n (alike_two (alike_back a) r) }

  alike_decipherable : Decipherable t → Decipherable u
  alike_decipherable d s v p q e = d s v ((a.permitted s).1 p) ((a.permitted v).1 q) (same_message a s ∙ e ∙ sym (same_message a v))

  alike_delay : {N : ℕ} → Delay t N → Delay u N
  alike_delay d = record { enough = λ h. d.enough (alike_share (alike_back a) h); needed = λ M e. alike_share a (d.needed M e) }

  alike_unbounded : WithoutBound t → WithoutBound u
  alike_unbounded w N = alike_share a (w N)

  alike_verdict : (m s w : List ℕ) (v : Verdict) → VerdictMeans t m s w v → VerdictMeans u m s w v
  alike_verdict m s w (Two-ways i j k) h = (alike_ambiguous h.0, h.1, h.2, h.3)
  alike_verdict m s w (Finite d) h = (alike_decipherable h.0, alike_delay h.1)
  alike_verdict m s w Unbounded h = (alike_decipherable h.0, alike_unbounded h.1)

-- Both ways round
module _ {t u : Table} (a : Alike t u) where
  pub same_reads : {m s : List ℕ} → Reads t m s ↔ Reads u m s
  same_reads = (alike_reads a, alike_reads (alike_back a))

  pub same_none : {m : List ℕ} → NoReading t m ↔ NoReading u m
  same_none = (alike_none a, alike_none (alike_back a))

  pub same_only : {m s : List ℕ} → OnlyReading t m s ↔ OnlyReading u m s
  same_only = (alike_only a, alike_only (alike_back a))

  pub same_first_two : {m s v : List ℕ} → FirstTwo t m s v ↔ FirstTwo u m s v
  same_first_two = (alike_first_two a, alike_first_two (alike_back a))

  pub same_ambiguous : {m s v : List ℕ} → Ambiguous t m s v ↔ Ambiguous u m s v
  same_ambiguous = (alike_ambiguous a, alike_ambiguous (alike_back a))

  pub same_decipherable : Decipherable t ↔ Decipherable u
  same_decipherable = (alike_decipherable a, alike_decipherable (alike_back a))

  pub same_delay : {N : ℕ} → Delay t N ↔ Delay u N
  same_delay = (alike_delay a, alike_delay (alike_back a))

  pub same_unbounded : WithoutBound t ↔ WithoutBound u
  same_unbounded = (alike_unbounded a, alike_unbounded (alike_back a))

  pub same_verdict : (m s w : List ℕ) (v : Verdict) → VerdictMeans t m s w v ↔ VerdictMeans u m s w v
  same_verdict m s w v = (alike_verdict a m s w v, alike_verdict (alike_back a) m s w v)
