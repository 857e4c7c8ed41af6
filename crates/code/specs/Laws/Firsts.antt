-- The first members of a set of sequences, in dictionary order: none, the only one, the first two. They depend on the members alone; and what is said of the readings
-- of a message is said of a set.
use Rattle.std.specs.Prelude.{◌≡◌, List, ℕ}
use Rattle.code.specs.Definitions.Tables.{Table}
use Rattle.code.specs.Definitions.Readings.{Reads, OnlyReading, FirstTwo}
use Rattle.code.specs.Definitions.Orders.{Lex}

module _ (R : List ℕ → Type 0) where
  abbrev pub None : Type 0
  None = (s : List ℕ) → R s → ⊥

  pub record Only (s : List ℕ) : Type 0 where
    pub member : R s
    pub only : (v : List ℕ) → R v → v ≡ s

  pub record FirstPair (s u : List ℕ) : Type 0 where
    pub first : R s
    pub second : R u
    pub order : Lex s u
    pub later : (v : List ℕ) → R v → (v ≡ s → ⊥) → (v ≡ u → ⊥) → Lex u v

module _ {R S : List ℕ → Type 0} (to : (s : List ℕ) → R s → S s) (back : (s : List ℕ) → S s → R s) where
  pub same_none : None R → None S
  same_none n s h = n s (back s h)

  pub same_only : {s : List ℕ} → Only R s → Only S s
  same_only {s} o = record { member = to s o.member; only = λ v h. o.only v (back v h) }

  pub same_pair : {s u : List ℕ} → FirstPair R s u → FirstPair S s u
  same_pair {s} {u} f = record { first = to s f.first; second = to u f.second; order = f.order; later = λ v h. f.later v (back v h) }

module _ {t : Table} {m : List ℕ} where
  pub only_reading_lem : {s : List ℕ} → Only (Reads t m) s → OnlyReading t m s
  only_reading_lem o = record { reads = o.member; only = o.only }

  pub first_two : {s u : List ℕ} → FirstPair (Reads t m) s u → FirstTwo t m s u
  first_two f = record { first = f.first; second = f.second; order = f.order; later = f.later }
