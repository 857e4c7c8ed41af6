-- Every text has an output. A message has no reading, one or several, and which of them can be decided: a reading has no more words than the message has symbols, so there
-- are finitely many sequences to try.
use Rattle.std.specs.Prelude.{◌≡◌, refl, Bool, true, false, ℕ, zero, suc, ◌≤◌, length}
use Rattle.std.proofs.Common.{sym, ap, arith}
use Rattle.std.proofs.Math.Bool.{Bool-discrete}
use mathlib.Core.List.{List, [], ◌∷◌, List-discrete}
use Rattle.std.proofs.Math.Logic.Dec
use Rattle.std.proofs.Math.Decide.{map_dec, ℕ_discrete}
use Rattle.code.specs.Definitions.Readings.{Reads, NoReading, OnlyReading, TwoReadings}
use Rattle.code.specs.Definitions.Tables.{Table, size, message, Obeys, no_words, one_word, two_words, triple, Permitted, empty, begun}
use Rattle.code.specs.Definitions.Texts.{is_letter, run, rest, symbols_in, Shows, split, none, several, Splits, end, copied, shown}
use Rattle.code.specs.Laws.Finite.{Within, SomeList, list, decide_list}
use Rattle.code.specs.Laws.Sequences.{NonEmpty, decide_linked, linked_within, permitted_linked, first_begins, permitted_obeys, first_unbanned, rest_obeys, words_most}
use Rattle.text_theory.specs.Runs.{rest_shorter}

decide_not : {A : Type 0} → Dec A → Dec (A → ⊥)
decide_not (yes a) = no (λ f. f a)
decide_not (no f) = yes f

module _ (t : Table) where
  decide_obeys : (s : List ℕ) → Dec (Obeys t s)
  decide_obeys [] = yes no_words
  decide_obeys (x ∷ []) = yes one_word
  decide_obeys (y ∷ z ∷ []) = yes two_words
  decide_obeys (y ∷ z ∷ x ∷ s) =
      map_dec (λ p. triple p.0 p.1) (λ o. (first_unbanned o, rest_obeys o)) (Dec.and (Bool-discrete (t.banned x y z) false) (decide_obeys (z ∷ x ∷ s)))

  decide_permitted : (s : List ℕ) → Dec (Permitted t s)
  decide_permitted [] = yes empty
  decide_permitted (x ∷ s) =
      map_dec (λ p. begun p.0 p.1.0 p.1.1) (λ q. (first_begins q, (permitted_linked q, permitted_obeys q)))
      (Dec.and (Bool-discrete (t.begins x) true) (Dec.and (decide_linked (x ∷ s)) (decide_obeys (x ∷ s))))

  decide_reads : (m s : List ℕ) → Dec (Reads t m s)
  decide_reads m s =
      map_dec (λ p. record { permitted = p.0; joined = p.1 }) (λ r. (r.permitted, r.joined)) (Dec.and (decide_permitted s) (List-discrete ℕ_discrete (message t s) m))

  -- what a message has
  data Readable (m : List ℕ) : Type 0 where
    in_no_way : NoReading t m → Readable m
    in_one_way : {r : List ℕ} → OnlyReading t m r → Readable m
    in_several_ways : TwoReadings t m → Readable m

  module _ (some : NonEmpty t) where
    reads_short : {m s : List ℕ} → Reads t m s → Within (size t) s × (length s ≤ length m)
    reads_short {m} {s} r =
        let within = linked_within (permitted_linked r.permitted) in
        (within, omega (arith, words_most t some s within, ap length r.joined))

    -- another reading beside s, or none
    decide_other : (m s : List ℕ) → Reads t m s → Readable m
    decide_other m s r = by (decide_list (λ u. Dec.and (decide_reads m u) (decide_not (List-discrete ℕ_discrete u s))) (size t) (length m))
      where
        only : ((u : List ℕ) → Reads t m u → (u ≡ s → ⊥) → ⊥) → (u : List ℕ) → Reads t m u → Dec (u ≡ s) → u ≡ s
        only f u d (yes e) = e
        only f u d (no n) = absurd (f u d n)

        by : Dec (SomeList (size t) (length m) (λ u. Reads t m u × (u ≡ s → ⊥))) → Readable m
        by (yes (list u w h p)) = in_several_ways (record { s = s; u = u; first = r; second = p.0; differ = λ e. p.1 (sym e) })
        by (no f) =
            in_one_way (record {
              reads = r;
              only = λ u d. only (λ v q n. f (list v (reads_short q).0 (reads_short q).1 (q, n))) u d (List-discrete ℕ_discrete u s);
            })

    readable : (m : List ℕ) → Readable m
    readable m = by (decide_list (decide_reads m) (size t) (length m))
      where
        by : Dec (SomeList (size t) (length m) (Reads t m)) → Readable m
        by (yes (list s w h r)) = decide_other m s r
        by (no f) = in_no_way (λ s r. f (list s (reads_short r).0 (reads_short r).1 r))

-- The output of the text s.
pub record Output (t : Table) (classes s : List ℕ) : Type 0 where
  pub bytes : List ℕ
  pub splits : Splits t classes s bytes

record Word (t : Table) (classes w : List ℕ) : Type 0 where
  bytes : List ℕ
  shows : Shows t classes w bytes

module _ {t : Table} (some : NonEmpty t) (classes : List ℕ) where
  word_shown : (w : List ℕ) → Word t classes w
  word_shown w = by (readable t some (symbols_in classes w))
    where
      by : Readable t (symbols_in classes w) → Word t classes w
      by (in_no_way n) = record { bytes = _; shows = none n }
      by (in_one_way o) = record { bytes = _; shows = split o }
      by (in_several_ways b) = record { bytes = _; shows = several b }

  -- one word or one byte more, where shorter texts have outputs
  output_next : (n : ℕ) → ((u : List ℕ) → length u ≤ n → Output t classes u) → (s : List ℕ) → length s ≤ suc n → Output t classes s
  output_next n f [] h = record { bytes = []; splits = end }
  output_next n f (a ∷ s) h = by (is_letter classes a) refl
    where
      by : (b : Bool) → is_letter classes a ≡ b → Output t classes (a ∷ s)
      by true e =
          let w = word_shown (run classes (a ∷ s)) in
          let o = f (rest classes (a ∷ s)) (omega (arith, rest_shorter classes a s e)) in
          record { bytes = _; splits = shown e w.shows o.splits }
      by false e = let o = f s (omega arith) in record { bytes = _; splits = copied e o.splits }

  output_within : (n : ℕ) (s : List ℕ) → length s ≤ n → Output t classes s
  output_within zero = λ s h. record { bytes = s; splits = nothing s h }
    where
      nothing : (s : List ℕ) → length s ≤ 0 → Splits t classes s s
      nothing [] h = end
      nothing (a ∷ s) h = absurd (omega arith)
  output_within (suc n) = output_next n (output_within n)

  -- Every text has an output; by `splits_unique` it has one.
  pub splits_some : (s : List ℕ) → Output t classes s
  splits_some s = output_within (length s) s (omega arith)
