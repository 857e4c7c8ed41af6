-- Encoding and reading undo each other, as their definitions say. What is encoded is permitted and stands in the buffer as its message, so it is a
-- reading of that message; and what reading finds is permitted and has the message that was read, so encoding takes it and gives that message back.
use Rattle.std.specs.Prelude.{◌≡◌, ◌⊎◌, ℕ, ◌<◌, length, take, Err, Ok}
use Rattle.std.proofs.Common.{sym, ap, inl, inr, arith}
use mathlib.Core.List.{List, [], ◌∷◌, List-discrete}
use Rattle.std.proofs.Math.Decide.{ℕ_discrete}
use Rattle.code.specs.declared.Enlarged.{Enlarged}
use Rattle.code.specs.declared.Limits.{Limits}
use Rattle.code.specs.declared.SymbolCount.{SymbolCount}
use Rattle.code.specs.declared.WordCount.{WordCount}
use Rattle.code.specs.declared.Refusal.{Refusal}
use Rattle.code.specs.declared.Refusal.TheVariants.{ShortBuffer, NoReading as Unreadable}
use Rattle.code.specs.declared.Readings.TheVariants.{One, Two}
use Rattle.code.specs.Definitions.Tables.{message}
use Rattle.code.specs.Definitions.Enlarged.{original_table}
use Rattle.code.specs.Definitions.Orders.{Lex}
use Rattle.code.specs.Definitions.Readings.{Reads, OnlyReading, FirstTwo}
use Rattle.code.specs.Definitions.Answers.{refusal_number}
use Rattle.code.specs.Definitions.Operations.{Condition, Lowest, FromLists, written, Encodes, refused, encoded, reading_conditions, ReadsMessage, unreadable, one, two}
use Rattle.code.specs.Laws.Buffers.{take-written}
use Rattle.code.specs.Laws.Orders.{lex_transitive}
use Rattle.encode_permitted.specs.Permitted.{permitted, permitted_known, permitted_follows}

-- A condition that does not hold is passed over. Here `Holds` is the condition, `First` that its refusal is the lowest, `Later` that a later one is.
lowest_after : {Holds First Later : Type 0} → (Holds → ⊥) → (Holds × First) ⊎ ((Holds → ⊥) × Later) → Later
lowest_after n (inl p) = absurd (n p.0)
lowest_after n (inr p) = p.1

-- The refusal r is none of those listed.
abbrev Unlisted : List Condition → Refusal → Type 0
Unlisted [] r = Unit
Unlisted (c ∷ cs) r = (refusal_number r ≡ refusal_number c.refusal → ⊥) × Unlisted cs r

-- The lowest refusal that holds is one of those listed.
lowest_listed : (cs : List Condition) (r : Refusal) → Lowest cs r → Unlisted cs r → ⊥
lowest_listed [] r x n = x
lowest_listed (c ∷ cs) r (inl p) n = n.0 (ap refusal_number p.1)
lowest_listed (c ∷ cs) r (inr p) n = lowest_listed cs r p.1 n.1

module _ {l : Limits} {e : Enlarged} where
  module _ {m f g w f' g' w' : List ℕ} where
    -- Reading that finds one reading leaves the only one in the first buffer.
    pub one_only : {k : WordCount} → ReadsMessage l e m f g w f' g' w' (Ok (One k)) → OnlyReading (original_table e) m (take k.0 f')
    one_only {k} (one {s = s} h o c p q z) = rw (take-written k.0 s f f' c p) o

    -- Reading that finds two leaves the first two in the two buffers.
    pub two_first : {j k : WordCount} → ReadsMessage l e m f g w f' g' w' (Ok (Two j k)) → FirstTwo (original_table e) m (take j.0 f') (take k.0 g')
    two_first {j} {k} (two {s = s} {u = u} h t d c p q z) = rw (take-written j.0 s f f' d p, take-written k.0 u g g' c q) t

  -- Encoding, then reading

  -- What is encoded is a reading of the message in the buffer.
  pub encoded_reads : {s b b' : List ℕ} {n : SymbolCount} → Encodes l e s b b' (Ok n) → Reads (original_table e) (take n.0 b') s
  encoded_reads {s} {b} {b'} {n} (encoded h c w) =
      record {
        permitted = permitted s h.1.0 h.1.1.0;
        joined = sym (take-written n.0 (message (original_table e) s) b b' c w);
      }

  module _ {s b b' f g w f' g' w' : List ℕ} {n : SymbolCount} (encodes : Encodes l e s b b' (Ok n)) where
    -- Where reading the encoded message finds one reading, it is the sequence that was encoded.
    pub encoded_one : {k : WordCount} → ReadsMessage l e (take n.0 b') f g w f' g' w' (Ok (One k)) → s ≡ take k.0 f'
    encoded_one r = (one_only r).only s (encoded_reads encodes)

    -- Where it finds two, the sequence is the first, or the second, or comes after both in word order.
    pub encoded_two : {j k : WordCount} → ReadsMessage l e (take n.0 b') f g w f' g' w' (Ok (Two j k))
        → (s ≡ take j.0 f') ⊎ ((s ≡ take k.0 g') ⊎ (Lex (take j.0 f') s × Lex (take k.0 g') s))
    encoded_two {j} {k} r = by_which (List-discrete ℕ_discrete s (take j.0 f')) (List-discrete ℕ_discrete s (take k.0 g'))
      where
        by_which : Dec (s ≡ take j.0 f') → Dec (s ≡ take k.0 g')
            → (s ≡ take j.0 f') ⊎ ((s ≡ take k.0 g') ⊎ (Lex (take j.0 f') s × Lex (take k.0 g') s))
        by_which (yes d) e = inl d
        by_which (no d) (yes e) = inr (inl e)
        by_which (no d) (no e) =
            let after : Lex (take k.0 g') s = (two_first r).later s (encoded_reads encodes) d e in
            inr (inr (lex_transitive (two_first r).order after, after))

    -- Reading never answers that the encoded message has no reading.
    pub encoded_readable : ReadsMessage l e (take n.0 b') f g w f' g' w' (Err Unreadable) → ⊥
    encoded_readable (refused h p q z) = lowest_listed (reading_conditions l e (take n.0 b') f g w) Unreadable h (omega arith)
    encoded_readable (unreadable h x p q z) = x s (encoded_reads encodes)

-- Reading, then encoding

-- Encoding gave the message m: its length, and m at the start of the buffer.
pub record Restored (m b b' : List ℕ) (n : SymbolCount) : Type 0 where
  pub count : n.0 ≡ length m
  pub buffer : b' ≡ written m b

-- Reading the message m found the sequence s.
pub record Found (l : Limits) (e : Enlarged) (m s : List ℕ) : Type 0 where
  pub from_lists : (FromLists l e → ⊥) → ⊥
  pub within : l.message < length m → ⊥
  pub reads : Reads (original_table e) m s

module _ {l : Limits} {e : Enlarged} where
  module _ {m f g w f' g' w' : List ℕ} where
    -- A single reading is found so.
    pub one_found : {k : WordCount} → ReadsMessage l e m f g w f' g' w' (Ok (One k)) → Found l e m (take k.0 f')
    one_found {k} (one {s = s} h o c p q z) =
        record { from_lists = h.0; within = h.1.0; reads = rw (take-written k.0 s f f' c p) o.reads }

    -- So are the first and the second of two.
    pub two_found : {j k : WordCount} → ReadsMessage l e m f g w f' g' w' (Ok (Two j k)) → Found l e m (take j.0 f') × Found l e m (take k.0 g')
    two_found {j} {k} (two {s = s} {u = u} h t d c p q z) = (
      record { from_lists = h.0; within = h.1.0; reads = rw (take-written j.0 s f f' d p) t.first },
      record { from_lists = h.0; within = h.1.0; reads = rw (take-written k.0 u g g' c q) t.second },
    )

  module _ {m s : List ℕ} (found : Found l e m s) where
    -- Encoding what reading found gives the message back.
    pub found_restored : {b b' : List ℕ} {n : SymbolCount} → Encodes l e s b b' (Ok n) → Restored m b b' n
    found_restored (encoded h c w) = record { count = rw found.reads.joined at c; buffer = rw found.reads.joined at w }

    -- It is refused only with 13, for a buffer shorter than the message.
    pub found_refused : {b b' : List ℕ} {r : Refusal} → Encodes l e s b b' (Err r) → (r ≡ ShortBuffer) × (length b < length m)
    found_refused {b} {b'} {r} (refused h p) =
        let reads = found.reads in
        let from-10 = lowest_after (permitted_known reads.permitted) (lowest_after found.from_lists h) in
        let from-13 = lowest_after (λ x. found.within (rw reads.joined at x)) (lowest_after (permitted_follows reads.permitted) from-10) in
        elim from-13 [
          | inl q ↦ (q.1, rw reads.joined at q.0)
          | inr q ↦ absurd q.1
        ]
