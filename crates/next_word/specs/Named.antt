-- What the contract says of the word that is named: no other fits; it is the first word of every reading, and a message with a reading is not refused; symbols behind
-- as many as the delay make no difference. And when what is left behind a word can be asked for its next word in turn.
use Rattle.std.specs.Prelude.{◌≡◌, refl, true, List, [], ◌∷◌, ◌↔◌, ℕ, ◌≤◌, ◌<◌, length, take, drop, get_or, Ok, Result}
use Rattle.std.proofs.Common.{sym, ap, ◌∙◌, subst, inl, inr, arith, length-take, get_or-take, drop_at}
use Rattle.code.specs.declared.Enlarged.{Enlarged}
use Rattle.code.specs.declared.Limits.{Limits}
use Rattle.code.specs.declared.Refusal.{Refusal}
use Rattle.code.specs.Definitions.Delays.{Delay}
use Rattle.code.specs.Definitions.Enlarged.{original_table}
use Rattle.code.specs.Definitions.NextWords.{NextWord, HighSoon, NotForetold, Foretells, naming_conditions, foretelling_conditions, NamesNext, refused, unnamed, named}
use Rattle.code.specs.Definitions.Operations.{FirstHolds, Lowest, NoneHolds, FromLists, HasHigh, verdict_work}
use Rattle.code.specs.Definitions.Readings.{Reads}
use Rattle.code.specs.Definitions.Sheets.{limits}
use Rattle.code.specs.Definitions.Tables.{Table, word, begun, message, table_of}
use Rattle.code.specs.Laws.Conditions.{lowest_none}
use Rattle.code.proofs.Laws.NextWords.{next_only, next_reading, next_is_first, high_by, not_foretold_by, foretells_alike, high_alike, not_foretold_alike}
use Rattle.code.specs.Laws.Sequences.{rest_linked, permitted_linked, permitted_obeys, rest_obeys, message_below_lem}
use Rattle.ban_theory.specs.Covers.{lifted_permitted, lifted_message}
use Rattle.well_enlarged.specs.Listed.{from_lists}
use Rattle.well_enlarged.specs.Meaning.{value_covers}
use Rattle.well_enlarged.specs.WellEnlarged.{WellEnlarged}
use Rattle.pair_places.specs.Codes.{code_fits}

module _ {l : Limits} {e : Enlarged} {m w w' : List ℕ} where
  pub told_by : {x : ℕ} → NamesNext l e m w w' (Ok x) → Foretells (original_table e) m x
  told_by (named _ _ f _) = f

  -- 02, request 7: "name the one word". By the delay no other word is one.
  pub named_only : {x : ℕ} (h : NamesNext l e m w w' (Ok x)) {y : ℕ} → NextWord (original_table e) (told_by h).N m y → x ≡ y
  named_only h a = let f = told_by h in next_only f.delay f.next a

  -- "For a non-empty message with a reading, this is that reading's first word."
  pub named_first : {x : ℕ} → NamesNext l e m w w' (Ok x) → {y : ℕ} {s : List ℕ} → Reads (original_table e) m (y ∷ s) → x ≡ y
  named_first h r = let f = told_by h in next_is_first f.delay r f.next

-- What is left behind the first word is a message of its own where the next word may begin. So where every word may, words are named one after the other.
pub rest_reads : {t : Table} {m : List ℕ} {x y : ℕ} {s : List ℕ} → t.begins y ≡ true → Reads t m (x ∷ y ∷ s) → Reads t (drop (length (word t x)) m) (y ∷ s)
rest_reads {t} {x = x} {y = y} {s = s} b r = record {
  permitted = begun b (rest_linked (permitted_linked r.permitted)) (rest_obeys (permitted_obeys r.permitted));
  joined = sym (drop_at (word t x) (message t (y ∷ s)) (length (word t x)) refl) ∙ ap (drop (length (word t x))) r.joined;
}

module _ {e : Enlarged} (from : FromLists limits e) {m : List ℕ} {y : ℕ} {s : List ℕ} (reads : Reads (original_table e) m (y ∷ s)) where
  well : WellEnlarged limits e
  well = from_lists from

  -- A message with a reading has no symbol above 15.
  reading_low : (k : ℕ) → get_or m k 0 < 16
  reading_low k =
      let c = value_covers well in
      let lifted = lifted_permitted c reads.permitted in
      subst (λ (l : List ℕ). get_or l k 0 < 16) (lifted_message c reads.permitted ∙ reads.joined)
      (message_below_lem (table_of e.code) (omega arith) (code_fits e.code well.code).low (permitted_linked lifted) k)

  not_high : (N : ℕ) → HasHigh (take N m) → ⊥
  not_high N h = omega (arith, h.high, get_or-take N m h.at 0 (omega (arith, h.within, length-take N m)), reading_low h.at)

  -- Where a non-empty message has a reading, and the table a delay, the answer is the reading's first word.
  pub reading_named : {w w' : List ℕ} {r : Result ℕ Refusal} {N : ℕ} → Delay (original_table e) N → 0 < length m → length m ≤ limits.message → verdict_work limits ≤ length w
      → NamesNext limits e m w w' r → r ≡ Ok y
  reading_named {w} {w'} {r} {N} d some few room = by
    where
      none_refused : NoneHolds (naming_conditions limits e m w)
      none_refused = (λ n. n from, (λ n. omega arith, (λ n. omega arith, tt)))

      is_told : NotForetold (original_table e) m → ⊥
      is_told h =
          elim (not_foretold_by d h) [
            | inl q ↦ let z = ap length q in omega arith
            | inr n ↦ n y (next_reading reads)
          ]

      none_untold : NoneHolds (foretelling_conditions limits e m)
      none_untold = (λ n. n N d, (λ h. not_high N (high_by d h), (is_told, tt)))

      by : {q : Result ℕ Refusal} → NamesNext limits e m w w' q → q ≡ Ok y
      by (refused {r = q} h z) = absurd (lowest_none (naming_conditions limits e m w) q h none_refused)
      by (unnamed {r = q} h f z) = absurd (lowest_none (foretelling_conditions limits e m) q f none_untold)
      by (named h n f z) = ap Ok (next_is_first f.delay reads f.next)

-- The answer depends on the first N symbols, N being the delay, and on whether the message is empty or too long. A message that ends before N symbols shares them with
-- none but itself, so whether it ends there is among what they tell.
module _ (l : Limits) (e : Enlarged) {N : ℕ} (d : Delay (original_table e) N) (m n : List ℕ) (same : take N m ≡ take N n) (empty : (m ≡ []) ↔ (n ≡ []))
    (few : (l.message < length n) ↔ (l.message < length m)) where
  -- the other way round
  high_back : HighSoon (original_table e) n → HighSoon (original_table e) m
  high_back = high_alike d (sym same)

  refused_alike : (w : List ℕ) (r : Refusal) → Lowest (naming_conditions l e m w) r → Lowest (naming_conditions l e n w) r
  refused_alike w r (inl p) = inl p
  refused_alike w r (inr (a, inl p)) = inr (a, inl (few.1 p.0, p.1))
  refused_alike w r (inr (a, inr (b, c))) = inr (a, inr (λ h. b (few.0 h), c))

  told_alike : (r : Refusal) → FirstHolds (foretelling_conditions l e m) r → FirstHolds (foretelling_conditions l e n) r
  told_alike r (inl p) = inl p
  told_alike r (inr (a, inl p)) = inr (a, inl (high_alike d same p.0, p.1))
  told_alike r (inr (a, inr (b, inl p))) = inr (a, inr (λ h. b (high_back h), inl (not_foretold_alike d same empty.0 p.0, p.1)))
  told_alike r (inr (a, inr (b, inr p))) = absurd p.1

  pub names_alike : {w w' : List ℕ} {r : Result ℕ Refusal} → NamesNext l e m w w' r → NamesNext l e n w w' r
  names_alike {w} (refused {r} h z) = refused (refused_alike w r h) z
  names_alike (unnamed {r} h f z) = unnamed (h.0, (λ k. h.1.0 (few.0 k), h.1.1)) (told_alike r f) z
  names_alike (named h k f z) =
      named (h.0, (λ i. h.1.0 (few.0 i), h.1.1)) (k.0, (λ i. k.1.0 (high_back i), (λ i. k.1.1.0 (not_foretold_alike d (sym same) empty.1 i), tt)))
      (foretells_alike d same f) z
