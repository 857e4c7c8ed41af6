-- The ways through the operation: the refusals in their order, and the word that is named. What the plain code tells is told of the table of original words: a copy
-- never begins, so each word that begins is its own original.
use Rattle.std.specs.Prelude.{Err, Ok, Result}
use Rattle.std.proofs.Common.{Option, Some, None}
use Rattle.std.specs.Option.{ok_or}
use mathlib.Core.Path.{◌≡◌, refl, sym, ap, subst}
use mathlib.Core.Bool.{Bool, true, false}
use mathlib.Core.List.{List, [], ◌∷◌}
use mathlib.Core.Logic.{inl, inr}
use Rattle.std.proofs.Common.{None, Some}
use Prim.Native.Nat.{ℕ, ◌≤◌, ◌<◌}
use native.Mathlib.Omega.{arith}
use lib.ListN.{length, take, replicate}
use lib.Seq.{take_all}
use Rattle.code.specs.declared.Enlarged.{Enlarged}
use Rattle.code.specs.declared.Refusal.TheVariants.{NotFromSheet, MessageLength, MessageSymbol, ShortBuffer, NoReading, NoFiniteDelay}
use Rattle.code.specs.declared.SymbolCount.{SymbolCount}
use Rattle.code.specs.declared.Refusal.{Refusal}
use Rattle.code.specs.Definitions.Delays.{Delay}
use Rattle.code.specs.Definitions.Enlarged.{original_table}
use Rattle.code.specs.Definitions.NextWords.{NextWord, NoDelay, HighSoon, NotForetold, NamesNext, refused, unnamed, named}
use Rattle.code.specs.Definitions.Operations.{FromLists, HasHigh, verdict_work}
use Rattle.code.specs.Definitions.Sheets.{limits}
use Rattle.code.specs.Definitions.Tables.{table_of}
use Rattle.code.proofs.Laws.NextWords.{next_known, high_by, not_foretold_by}
use Rattle.ban_theory.specs.NextWords.{named_next, lifted_next, named_endless}
use Rattle.ban_theory.specs.Matches.{named_delay}
use Rattle.well_enlarged.specs.Meaning.{value_covers}
use Rattle.well_enlarged.specs.WellEnlarged.{WellEnlarged}
use Rattle.code.specs.Laws.Exactly.{Exactly}
use Rattle.code.specs.Laws.Words.{size-count}
use Rattle.decipher_bound.specs.Bounds.{BoundBy, known_low, known_means, nothing_means}
use Rattle.pair_graph.specs.RivalPairs.{Ended}
use Rattle.pair_places.specs.Whole.{LaidOut}
use Rattle.next_word.specs.Picked.{Picked}
use Rattle.next_word.specs.Told.{Told, not_told, told}

module _ {e : Enlarged} (well : WellEnlarged limits e) where
  -- What the plain code tells.
  there : {N x : ℕ} {m : List ℕ} → NextWord (table_of e.code) N m x → NextWord (original_table e) N m x
  there {N} {x} {m} a =
      let c = value_covers well in
      let k = next_known a in
      subst (NextWord (original_table e) N m) (sym (c.begin_start x k.0 k.1)) (named_next c a)

  back : {N x : ℕ} {m : List ℕ} → NextWord (original_table e) N m x → NextWord (table_of e.code) N m x
  back a = lifted_next (value_covers well) a

  code_size : {N x : ℕ} {m : List ℕ} → NextWord (table_of e.code) N m x → x < e.code.count
  code_size a = rw (← size-count well.code) (next_known a).0

  has_delay : {N : ℕ} → Delay (original_table e) N → NoDelay (original_table e) → ⊥
  has_delay {N} d none = none N d

  module _ {N : ℕ} (m : List ℕ) (d : Delay (original_table e) N) where
    -- 12, by the delay that there is.
    high_iff : HasHigh (take N m) → HighSoon (original_table e) m
    high_iff h = record { N = N; delay = d; high = h }

    no_high : (HasHigh (take N m) → ⊥) → HighSoon (original_table e) m → ⊥
    no_high n h = n (high_by d h)

    pub way_12 : {b : Bool} → Exactly b (HasHigh (take N m)) → b ≡ true → Told e m (Err MessageSymbol)
    way_12 x h = not_told (inr (has_delay d, inl (high_iff (x.yes h), refl)))

    module _ {b : Bool} (x : Exactly b (HasHigh (take N m))) (low : b ≡ false) where
      pub way_empty : length m ≡ 0 → Told e m (Err NoReading)
      way_empty h = not_told (inr (has_delay d, inr (no_high (x.no low), inl (record { N = N; delay = d; none = inl (empty m h) }, refl))))
        where
          empty : (l : List ℕ) → length l ≡ 0 → l ≡ []
          empty [] q = refl
          empty (y ∷ l) q = absurd (omega arith)

      module _ (some : length m ≡ 0 → ⊥) where
        pub way_14 : Picked (NextWord (table_of e.code) N m) e.code.count None → Told e m (Err NoReading)
        way_14 f =
            not_told (inr (
              has_delay d,
              inr (
                no_high (x.no low),
                inl (
                  record {
                    N = N;
                    delay = d;
                    none = inr (λ z a. let b = back a in f z (code_size b) b);
                  },
                  refl,
                ),
              ),
            ))

        pub way_named : {r : ℕ} → Picked (NextWord (table_of e.code) N m) e.code.count (Some r) → Told e m (Ok r)
        way_named {r} f = told (has_delay d, (no_high (x.no low), (some_told, tt))) (record { N = N; delay = d; next = there f.1 })
          where
            some_told : NotForetold (original_table e) m → ⊥
            some_told u =
                elim (not_foretold_by d u) [
                  | inl q ↦ some (ap length q)
                  | inr n ↦ n r (there f.1)
                ]

        pub way_last : (o : Option ℕ) → Picked (NextWord (table_of e.code) N m) e.code.count o → Told e m (ok_or o NoReading)
        way_last None f = way_14 f
        way_last (Some r) f = way_named f

  -- What the searches say.
  module _ {places : List ℕ} {b : Option SymbolCount} (laid : LaidOut (table_of e.code) places) (ended : Ended (table_of e.code) places) (h : BoundBy places b) where
    pub way_21 : {m : List ℕ} → b ≡ None → Told e m (Err NoFiniteDelay)
    way_21 q = not_told (inl (named_endless (value_covers well) (nothing_means laid ended h q), refl))

    pub bound_delay : {d : SymbolCount} → b ≡ Some d → Delay (original_table e) d.0
    bound_delay q = named_delay (value_covers well) (known_means h q laid ended)

    pub bound_room : {d : SymbolCount} {w : ℕ} → b ≡ Some d → verdict_work limits ≤ w → d.0 < w
    bound_room q l = omega (arith, known_low h q laid.laid)

-- The first symbols.
pub high_all : {n : ℕ} (m : List ℕ) {b : Bool} → length m ≤ n → Exactly b (HasHigh m) → Exactly b (HasHigh (take n m))
high_all {n} m h x = rw (take_all n m h) x

-- The refusals that change nothing, and what was told with the working buffer zero.
module _ {e : Enlarged} (m w : List ℕ) where
  pub way_8 : {t : Bool} → Exactly t (FromLists limits e) → t ≡ false → NamesNext limits e m w w (Err NotFromSheet)
  way_8 lists h = refused (inl (lists.no h, refl)) refl

  module _ (from : FromLists limits e) where
    pub way_11 : limits.message < length m → NamesNext limits e m w w (Err MessageLength)
    way_11 h = refused (inr (λ n. n from, inl (h, refl))) refl

    module _ (short : length m ≤ limits.message) where
      pub way_13 : length w < verdict_work limits → NamesNext limits e m w w (Err ShortBuffer)
      way_13 h = refused (inr (λ n. n from, inr (λ n. omega arith, inl (h, refl)))) refl

      pub way_told : {w' : List ℕ} {r : Result ℕ Refusal} {k : ℕ} → verdict_work limits ≤ length w → Told e m r → k ≡ length w → w' ≡ replicate k 0 → NamesNext limits e m w w' r
      way_told h (not_told l) q z = unnamed (λ n. n from, (λ n. omega arith, (λ n. omega arith, tt))) l (rw q at z)
      way_told h (told n f) q z = named (λ n. n from, (λ n. omega arith, (λ n. omega arith, tt))) n f (rw q at z)

pub from_tested : {e : Enlarged} {t : Bool} → Exactly t (FromLists limits e) → t ≡ true → FromLists limits e
from_tested x h = x.yes h
