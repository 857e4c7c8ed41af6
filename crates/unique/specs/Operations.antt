-- Each contract of an operation leaves one answer only: for the same input and the same buffers at entry, any two answers that meet it are equal, and so is what
-- each buffer then holds. Enlarging by a ban list has its theorem beside its meaning: `enlarges_unique`, ban_meaning/specs/Answered.antt.
use Rattle.std.specs.Prelude.{◌≡◌, refl, List, ℕ, length, Err, Ok, Result}
use Rattle.std.proofs.Common.{sym, ap, ap₂, ◌∙◌}
use Rattle.code.specs.declared.Enlarged.{Enlarged}
use Rattle.code.specs.declared.Classes.{Classes}
use Rattle.code.specs.declared.Limits.{Limits}
use Rattle.code.specs.declared.SymbolCount.{SymbolCount}
use Rattle.code.specs.declared.WordCount.{WordCount}
use Rattle.code.specs.declared.ByteCount.{ByteCount}
use Rattle.code.specs.declared.Verdict.{Verdict}
use Rattle.code.specs.declared.Verdict.TheVariants.{Ambiguous as Two-ways, Finite, Unbounded}
use Rattle.code.specs.declared.Readings.TheVariants.{One, Two}
use Rattle.code.specs.declared.Refusal.{Refusal}
use Rattle.code.specs.declared.Readings.{Readings}
use Rattle.code.specs.Definitions.Tables.{Table}
use Rattle.code.specs.Definitions.Answers.{VerdictMeans}
use Rattle.code.specs.Definitions.Enlarged.{original_table}
use Rattle.code.specs.Definitions.NextWords.{naming_conditions, foretelling_conditions, NamesNext}
use Rattle.code.specs.Definitions.Operations.{written, Shown, encoding_conditions, reading_conditions, verdict_conditions, Encodes, ReadsMessage, Judges}
use Rattle.code.specs.Definitions.Splitting.{splitting_conditions, SplitsText}
use Rattle.code.specs.Laws.Conditions.{lowest_unique, lowest_none}
use Rattle.code.proofs.Laws.NextWords.{foretells_unique}
use Rattle.code.specs.Laws.Readings.{decipherable_not_ambiguous, ambiguous_unique, only_reading_unique, first_two_unique, none_not_only, none_not_two, only_not_two}
use Rattle.code.proofs.Laws.Verdicts.{verdict_unique}
use Rattle.text_theory.specs.Unique.{splits_unique}

symbol_count : (a b : SymbolCount) → a.0 ≡ b.0 → a ≡ b
symbol_count a b p = λ i. record { 0 = p i }

word_count : (a b : WordCount) → a.0 ≡ b.0 → a ≡ b
word_count a b p = λ i. record { 0 = p i }

byte_count : (a b : ByteCount) → a.0 ≡ b.0 → a ≡ b
byte_count a b p = λ i. record { 0 = p i }

module _ (l : Limits) (e : Enlarged) where
  -- Encoding: the message buffer, and the answer
  pub encodes_unique : {s b c d : List ℕ} {x y : Result SymbolCount Refusal} → Encodes l e s b c x → Encodes l e s b d y → (c ≡ d) × (x ≡ y)
  encodes_unique {s} {b} (Encodes.refused {r} h k) (Encodes.refused {r = q} i j) = (k ∙ sym j, ap Err (lowest_unique (encoding_conditions l e s b) r q h i))
  encodes_unique {s} {b} (Encodes.refused {r} h k) (Encodes.encoded i j o) = absurd (lowest_none (encoding_conditions l e s b) r h i)
  encodes_unique {s} {b} (Encodes.encoded h k o) (Encodes.refused {r = q} i j) = absurd (lowest_none (encoding_conditions l e s b) q i h)
  encodes_unique {s} {b} (Encodes.encoded {n} h k o) (Encodes.encoded {n = m} i j p) = (o ∙ sym p, ap Ok (symbol_count n m (k ∙ sym j)))

  -- Reading: the two buffers for readings, the working buffer, and the answer
  pub reads_unique : {m f g w f1 g1 w1 f2 g2 w2 : List ℕ} {x y : Result Readings Refusal} → ReadsMessage l e m f g w f1 g1 w1 x → ReadsMessage l e m f g w f2 g2 w2 y
      → (f1 ≡ f2) × (g1 ≡ g2) × (w1 ≡ w2) × (x ≡ y)
  reads_unique {m} {f} {g} {w} (ReadsMessage.refused {r} h a b c) (ReadsMessage.refused {r = q} i a' b' c') = (a ∙ sym a', b ∙ sym b', c ∙ sym c', ap Err (lowest_unique (reading_conditions l e m f g w) r q h i))
  reads_unique {m} {f} {g} {w} (ReadsMessage.refused {r} h a b c) (ReadsMessage.unreadable i n a' b' c') = absurd (lowest_none (reading_conditions l e m f g w) r h i)
  reads_unique {m} {f} {g} {w} (ReadsMessage.refused {r} h a b c) (ReadsMessage.one i o k a' b' c') = absurd (lowest_none (reading_conditions l e m f g w) r h i)
  reads_unique {m} {f} {g} {w} (ReadsMessage.refused {r} h a b c) (ReadsMessage.two i o k k' a' b' c') = absurd (lowest_none (reading_conditions l e m f g w) r h i)
  reads_unique {m} {f} {g} {w} (ReadsMessage.unreadable h n a b c) (ReadsMessage.refused {r = q} i a' b' c') = absurd (lowest_none (reading_conditions l e m f g w) q i h)
  reads_unique {m} {f} {g} {w} (ReadsMessage.unreadable h n a b c) (ReadsMessage.unreadable i n' a' b' c') = (a ∙ sym a', b ∙ sym b', c ∙ sym c', refl)
  reads_unique {m} {f} {g} {w} (ReadsMessage.unreadable h n a b c) (ReadsMessage.one i o k a' b' c') = absurd (none_not_only n o)
  reads_unique {m} {f} {g} {w} (ReadsMessage.unreadable h n a b c) (ReadsMessage.two i o k k' a' b' c') = absurd (none_not_two n o)
  reads_unique {m} {f} {g} {w} (ReadsMessage.one h o k a b c) (ReadsMessage.refused {r = q} i a' b' c') = absurd (lowest_none (reading_conditions l e m f g w) q i h)
  reads_unique {m} {f} {g} {w} (ReadsMessage.one h o k a b c) (ReadsMessage.unreadable i n a' b' c') = absurd (none_not_only n o)
  reads_unique {m} {f} {g} {w} (ReadsMessage.one {n} h o k a b c) (ReadsMessage.one {n = n'} i o' k' a' b' c') =
      let u = only_reading_unique o o' in
      (a ∙ ap (λ (z : List ℕ). written z f) u ∙ sym a', b ∙ sym b', c ∙ sym c', ap (λ n. Ok (One n)) (word_count n n' (k ∙ ap length u ∙ sym k')))
  reads_unique {m} {f} {g} {w} (ReadsMessage.one h o k a b c) (ReadsMessage.two i o' k' k'' a' b' c') = absurd (only_not_two o o')
  reads_unique {m} {f} {g} {w} (ReadsMessage.two h o k k' a b c) (ReadsMessage.refused {r = q} i a' b' c') = absurd (lowest_none (reading_conditions l e m f g w) q i h)
  reads_unique {m} {f} {g} {w} (ReadsMessage.two h o k k' a b c) (ReadsMessage.unreadable i n a' b' c') = absurd (none_not_two n o)
  reads_unique {m} {f} {g} {w} (ReadsMessage.two h o k k' a b c) (ReadsMessage.one i o' j a' b' c') = absurd (only_not_two o' o)
  reads_unique {m} {f} {g} {w} (ReadsMessage.two {n} {k = p} h o k k' a b c) (ReadsMessage.two {n = n'} {k = p'} i o' j j' a' b' c') =
      let u = first_two_unique o o' in (
        a ∙ ap (λ (z : List ℕ). written z f) u.0 ∙ sym a',
        b ∙ ap (λ (z : List ℕ). written z g) u.1 ∙ sym b',
        c ∙ sym c',
        ap₂ (λ n k. Ok (Two n k)) (word_count n n' (k ∙ ap length u.0 ∙ sym j)) (word_count p p' (k' ∙ ap length u.1 ∙ sym j')),
      )

  module _ (t : Table) (m f g m1 f1 g1 m2 f2 g2 x s u x' s' u' : List ℕ) where
    -- what the three buffers of a verdict show
    shown_unique : (v w : Verdict) → VerdictMeans t x s u v → VerdictMeans t x' s' u' w → Shown m f g m1 f1 g1 x s u v → Shown m f g m2 f2 g2 x' s' u' w
        → (m1 ≡ m2) × (f1 ≡ f2) × (g1 ≡ g2)
    shown_unique (Two-ways a b c) (Two-ways d i j) p q y z =
        let r = ambiguous_unique p.0 q.0 in (
          y.0 ∙ ap (λ (n : List ℕ). written n m) r.0 ∙ sym z.0,
          y.1 ∙ ap (λ (n : List ℕ). written n f) r.1 ∙ sym z.1,
          y.2 ∙ ap (λ (n : List ℕ). written n g) r.2 ∙ sym z.2,
        )
    shown_unique (Two-ways a b c) (Finite d) p q y z = absurd (decipherable_not_ambiguous p.0 q.0)
    shown_unique (Two-ways a b c) Unbounded p q y z = absurd (decipherable_not_ambiguous p.0 q.0)
    shown_unique (Finite d) (Two-ways a b c) p q y z = absurd (decipherable_not_ambiguous q.0 p.0)
    shown_unique Unbounded (Two-ways a b c) p q y z = absurd (decipherable_not_ambiguous q.0 p.0)
    shown_unique (Finite d) (Finite i) p q y z = (y.0 ∙ sym z.0, y.1 ∙ sym z.1, y.2 ∙ sym z.2)
    shown_unique (Finite d) Unbounded p q y z = (y.0 ∙ sym z.0, y.1 ∙ sym z.1, y.2 ∙ sym z.2)
    shown_unique Unbounded (Finite i) p q y z = (y.0 ∙ sym z.0, y.1 ∙ sym z.1, y.2 ∙ sym z.2)
    shown_unique Unbounded Unbounded p q y z = (y.0 ∙ sym z.0, y.1 ∙ sym z.1, y.2 ∙ sym z.2)

  -- The verdict: the message buffer, the two for readings, the working buffer, and the answer
  pub judges_unique : {m f g w m1 f1 g1 w1 m2 f2 g2 w2 : List ℕ} {x y : Result Verdict Refusal} → Judges l e m f g w m1 f1 g1 w1 x → Judges l e m f g w m2 f2 g2 w2 y
      → ((m1 ≡ m2) × (f1 ≡ f2) × (g1 ≡ g2)) × (w1 ≡ w2) × (x ≡ y)
  judges_unique {m} {f} {g} {w} (Judges.refused {r} h a b c d) (Judges.refused {r = q} i a' b' c' d') =
      ((a ∙ sym a', b ∙ sym b', c ∙ sym c'), d ∙ sym d', ap Err (lowest_unique (verdict_conditions l e m f g w) r q h i))
  judges_unique {m} {f} {g} {w} (Judges.refused {r} h a b c d) (Judges.judged x s u i v k z) = absurd (lowest_none (verdict_conditions l e m f g w) r h i)
  judges_unique {m} {f} {g} {w} (Judges.judged x s u h v k z) (Judges.refused {r = q} i a' b' c' d') = absurd (lowest_none (verdict_conditions l e m f g w) q i h)
  judges_unique {m} {f} {g} {w} {m1} {f1} {g1} {w1} {m2} {f2} {g2} {w2} (Judges.judged {v} x s u h means shown z) (Judges.judged {v = v'} x' s' u' i means' shown' z') = (
    shown_unique (original_table e) m f g m1 f1 g1 m2 f2 g2 x s u x' s' u' v v' means means' shown shown',
    z ∙ sym z',
    ap Ok (verdict_unique (original_table e) x s u x' s' u' v v' means means'),
  )

  -- Naming the next word: the working buffer, and the answer
  pub names_unique : {m w w1 w2 : List ℕ} {x y : Result ℕ Refusal} → NamesNext l e m w w1 x → NamesNext l e m w w2 y → (w1 ≡ w2) × (x ≡ y)
  names_unique {m} {w} (NamesNext.refused {r} h a) (NamesNext.refused {r = q} i b) = (a ∙ sym b, ap Err (lowest_unique (naming_conditions l e m w) r q h i))
  names_unique {m} {w} (NamesNext.refused {r} h a) (NamesNext.unnamed i f b) = absurd (lowest_none (naming_conditions l e m w) r h i)
  names_unique {m} {w} (NamesNext.refused {r} h a) (NamesNext.named i n f b) = absurd (lowest_none (naming_conditions l e m w) r h i)
  names_unique {m} {w} (NamesNext.unnamed h f a) (NamesNext.refused {r = q} i b) = absurd (lowest_none (naming_conditions l e m w) q i h)
  names_unique {m} (NamesNext.unnamed {r} h f a) (NamesNext.unnamed {r = q} i g b) = (a ∙ sym b, ap Err (lowest_unique (foretelling_conditions l e m) r q f g))
  names_unique {m} (NamesNext.unnamed {r} h f a) (NamesNext.named i n g b) = absurd (lowest_none (foretelling_conditions l e m) r f n)
  names_unique {m} {w} (NamesNext.named h n f a) (NamesNext.refused {r = q} i b) = absurd (lowest_none (naming_conditions l e m w) q i h)
  names_unique {m} (NamesNext.named h n f a) (NamesNext.unnamed {r = q} i g b) = absurd (lowest_none (foretelling_conditions l e m) q g n)
  names_unique (NamesNext.named h n f a) (NamesNext.named i k g b) = (a ∙ sym b, ap Ok (foretells_unique f g))

  -- Splitting a text: the output, message and reading buffers, the working buffer, and the answer
  pub splits_text_unique : {classes : Classes} {s b m f g w b1 m1 f1 g1 w1 b2 m2 f2 g2 w2 : List ℕ} {x y : Result ByteCount Refusal} → SplitsText l e classes s b m f g w b1 m1 f1 g1 w1 x
      → SplitsText l e classes s b m f g w b2 m2 f2 g2 w2 y → (b1 ≡ b2) × (m1 ≡ m2) × (f1 ≡ f2) × (g1 ≡ g2) × (w1 ≡ w2) × (x ≡ y)
  splits_text_unique {classes} {s} {b} {m} {f} {g} {w} (SplitsText.refused {r} h a mm c d k) (SplitsText.refused {r = q} i a' mm' c' d' k') =
      (a ∙ sym a', mm ∙ sym mm', c ∙ sym c', d ∙ sym d', k ∙ sym k', ap Err (lowest_unique (splitting_conditions l e classes s b m f g w) r q h i))
  splits_text_unique {classes} {s} {b} {m} {f} {g} {w} (SplitsText.refused {r} h a mm c d k) (SplitsText.split i o j a' b' c' d' k') = absurd (lowest_none (splitting_conditions l e classes s b m f g w) r h i)
  splits_text_unique {classes} {s} {b} {m} {f} {g} {w} (SplitsText.split h o j a mm c d k) (SplitsText.refused {r = q} i a' b' c' d' k') = absurd (lowest_none (splitting_conditions l e classes s b m f g w) q i h)
  splits_text_unique {classes} {s} {b} {m} {f} {g} {w} (SplitsText.split {n} h o j a mm c d k) (SplitsText.split {n = n'} i o' j' a' mm' c' d' k') =
      let u = splits_unique o o' in
      (a ∙ ap (λ (z : List ℕ). written z b) u ∙ sym a', mm ∙ sym mm', c ∙ sym c', d ∙ sym d', k ∙ sym k', ap Ok (byte_count n n' (j ∙ ap length u ∙ sym j')))
