-- The word that the first symbols of a message tell, as many of them as the delay, and what naming it promises, for every input.
use Rattle.std.specs.Prelude.{◌≡◌, List, [], ◌∷◌, ◌⊎◌, ℕ, ◌<◌, length, take, Err, Ok, Result}
use Rattle.code.specs.declared.Enlarged.{Enlarged}
use Rattle.code.specs.declared.Limits.{Limits}
use Rattle.code.specs.declared.Refusal.{Refusal}
use Rattle.code.specs.declared.Refusal.TheVariants.{NotFromSheet, MessageLength, MessageSymbol, ShortBuffer, NoReading, NoFiniteDelay}
use Rattle.code.specs.Definitions.Tables.{Table, Permitted, message}
use Rattle.code.specs.Definitions.Delays.{Delay}
use Rattle.code.specs.Definitions.Enlarged.{original_table}
use Rattle.code.specs.Definitions.Operations.{Condition, FirstHolds, Lowest, NoneHolds, zeroed, FromLists, HasHigh, verdict_work}

-- 02, request 7: word x "begins some permitted non-empty sequence with the same first N symbols (whole where shorter)" as the message m.
pub record NextWord (t : Table) (N : ℕ) (m : List ℕ) (x : ℕ) : Type 0 where
  pub s : List ℕ
  pub permitted : Permitted t (x ∷ s)
  pub share : take N (message t (x ∷ s)) ≡ take N m

module _ (t : Table) where
  -- 21: "the table has no finite delay"
  abbrev pub NoDelay : Type 0
  NoDelay = (N : ℕ) → Delay t N → ⊥

  -- 12, a symbol above 15, here "first N symbols only"
  pub record HighSoon (m : List ℕ) : Type 0 where
    pub N : ℕ
    pub delay : Delay t N
    pub high : HasHigh (take N m)

  -- "Refuse with 14 if there is none or the message is empty."
  pub record NotForetold (m : List ℕ) : Type 0 where
    pub N : ℕ
    pub delay : Delay t N
    pub none : (m ≡ []) ⊎ ((x : ℕ) → NextWord t N m x → ⊥)

  -- "For a table with delay N .. name the one word": by the delay no other is one (`next_only`, Laws/NextWords).
  pub record Foretells (m : List ℕ) (x : ℕ) : Type 0 where
    pub N : ℕ
    pub delay : Delay t N
    pub next : NextWord t N m x

-- Naming the next word of the message m, with the working buffer w. "the order is 8, 11, 13, 21, 12 (first N symbols only), 14": it does not ascend, and the first
-- that holds is returned, not the lowest. 8, 11 and 13 leave the working buffer as it was, and 21, 12 and 14 leave it zero, so they stand in two lists.
module _ (l : Limits) (e : Enlarged) where
  abbrev pub naming_conditions : (m w : List ℕ) → List Condition
  naming_conditions m w =
      record { refusal = NotFromSheet; holds = FromLists l e → ⊥ }
      ∷ record { refusal = MessageLength; holds = l.message < length m }
      ∷ record { refusal = ShortBuffer; holds = length w < verdict_work l }
      ∷ []

  abbrev pub foretelling_conditions : List ℕ → List Condition
  foretelling_conditions m =
      record { refusal = NoFiniteDelay; holds = NoDelay (original_table e) }
      ∷ record { refusal = MessageSymbol; holds = HighSoon (original_table e) m }
      ∷ record { refusal = NoReading; holds = NotForetold (original_table e) m }
      ∷ []

  -- "The delay is worked out in the verdict's working buffer, left all zero unless 8, 11 or 13 is returned."
  pub data NamesNext (m w w' : List ℕ) : Result ℕ Refusal → Type 0 where
    refused : {r : Refusal} → Lowest (naming_conditions m w) r → w' ≡ w → NamesNext m w w' (Err r)
    unnamed : {r : Refusal} → NoneHolds (naming_conditions m w) → FirstHolds (foretelling_conditions m) r → w' ≡ zeroed w → NamesNext m w w' (Err r)
    named : {x : ℕ} → NoneHolds (naming_conditions m w) → NoneHolds (foretelling_conditions m) → Foretells (original_table e) m x → w' ≡ zeroed w
        → NamesNext m w w' (Ok x)
