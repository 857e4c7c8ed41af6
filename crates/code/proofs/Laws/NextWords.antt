-- What the first N symbols tell of a message's first word, for every table with delay N: one word at most, the first of each reading, and nothing that depends on
-- the symbols behind them.
use Rattle.std.specs.Prelude.{◌≡◌, refl, true, List, [], ◌∷◌, ◌⊎◌, ◌↔◌, ℕ, ◌<◌, ◌≤◌, length, take}
use Rattle.std.proofs.Common.{sym, ap, ◌∙◌, subst, inl, inr, arith, length-append, length-take}
use Rattle.code.specs.Definitions.Tables.{Table, size, one, begun, one_word}
use Rattle.code.specs.Definitions.Readings.{Reads}
use Rattle.code.specs.Definitions.Delays.{Delay}
use Rattle.code.specs.Definitions.NextWords.{NextWord, HighSoon, NotForetold, Foretells}
use Rattle.code.specs.Definitions.Operations.{HasHigh}
use Rattle.code.specs.Laws.Sequences.{NonEmpty, first_word, permitted_linked, first_begins}
use Rattle.code.proofs.Laws.Delays.{delay_unique, delay_least}

module _ {t : Table} {N : ℕ} where
  -- With delay N the first N symbols tell at most one word.
  pub next_only : Delay t N → {m : List ℕ} {x y : ℕ} → NextWord t N m x → NextWord t N m y → x ≡ y
  next_only d {m} {x} {y} a b = (delay_least d).alike [] x y a.s b.s a.permitted b.permitted (a.share ∙ sym b.share)

  -- The first word of a reading is told,
  pub next_reading : {m : List ℕ} {x : ℕ} {s : List ℕ} → Reads t m (x ∷ s) → NextWord t N m x
  next_reading {s = s} r = record { s = s; permitted = r.permitted; share = ap (take N) r.joined }

  -- and, with delay N, no other.
  pub next_is_first : Delay t N → {m : List ℕ} {x y : ℕ} {s : List ℕ} → Reads t m (y ∷ s) → NextWord t N m x → x ≡ y
  next_is_first d r a = next_only d a (next_reading r)

  -- It is told by the first N symbols alone.
  pub next_first : {m n : List ℕ} {x : ℕ} → take N m ≡ take N n → NextWord t N m x → NextWord t N n x
  next_first e a = record { s = a.s; permitted = a.permitted; share = a.share ∙ e }

  -- It is a word of the table that may begin.
  pub next_known : {m : List ℕ} {x : ℕ} → NextWord t N m x → (x < size t) × (t.begins x ≡ true)
  next_known a = (first_word (permitted_linked a.permitted), first_begins a.permitted)

  -- Where N is above 0 the empty message tells none.
  pub next_empty : NonEmpty t → 1 ≤ N → {x : ℕ} → NextWord t N [] x → ⊥
  next_empty ne h {x} a =
      let l = simp length-take at (ap length a.share) in
      let k = simp length-append at l in
      omega (arith, k, ne x (next_known a).0)

-- No symbol tells the word that begins, whatever the message.
pub next_none : {t : Table} {m : List ℕ} {x : ℕ} → NextWord t 0 m x ↔ ((x < size t) × (t.begins x ≡ true))
next_none = (next_known, λ h. record { s = []; permitted = begun h.1 (one h.0) one_word; share = refl })

module _ {t : Table} {m : List ℕ} where
  -- One word at most is foretold.
  pub foretells_unique : {x y : ℕ} → Foretells t m x → Foretells t m y → x ≡ y
  foretells_unique {y = y} f g = next_only f.delay f.next (subst (λ (N : ℕ). NextWord t N m y) (delay_unique g.delay f.delay) g.next)

  -- 12 and 14 are by the one delay that a table has.
  module _ {N : ℕ} (d : Delay t N) where
    pub high_by : HighSoon t m → HasHigh (take N m)
    high_by h = subst (λ (k : ℕ). HasHigh (take k m)) (delay_unique h.delay d) h.high

    pub not_foretold_by : NotForetold t m → (m ≡ []) ⊎ ((x : ℕ) → NextWord t N m x → ⊥)
    not_foretold_by h = subst (λ (k : ℕ). (m ≡ []) ⊎ ((x : ℕ) → NextWord t k m x → ⊥)) (delay_unique h.delay d) h.none

    pub foretells_by : {x : ℕ} → Foretells t m x → NextWord t N m x
    foretells_by {x} f = subst (λ (k : ℕ). NextWord t k m x) (delay_unique f.delay d) f.next

-- Messages with the same first N symbols get the same answer, if both are empty or neither is.
module _ {t : Table} {N : ℕ} (d : Delay t N) {m n : List ℕ} (same : take N m ≡ take N n) where
  pub foretells_alike : {x : ℕ} → Foretells t m x → Foretells t n x
  foretells_alike f = record { N = N; delay = d; next = next_first same (foretells_by d f) }

  pub high_alike : HighSoon t m → HighSoon t n
  high_alike h = record { N = N; delay = d; high = subst HasHigh same (high_by d h) }

  pub not_foretold_alike : (m ≡ [] → n ≡ []) → NotForetold t m → NotForetold t n
  not_foretold_alike empty h = record { N = N; delay = d; none = by (not_foretold_by d h) }
    where
      by : (m ≡ []) ⊎ ((x : ℕ) → NextWord t N m x → ⊥) → (n ≡ []) ⊎ ((x : ℕ) → NextWord t N n x → ⊥)
      by (inl e) = inl (empty e)
      by (inr none) = inr (λ x a. none x (next_first (sym same) a))

-- With delay 0 the word that may begin is foretold, whatever the symbols are; no symbol is too high; and where no word may begin, none is foretold.
module _ {t : Table} (d : Delay t 0) {m : List ℕ} where
  pub begins_foretold : {x : ℕ} → x < size t → t.begins x ≡ true → Foretells t m x
  begins_foretold h b = record { N = 0; delay = d; next = next_none.1 (h, b) }

  pub none_begins : ((x : ℕ) → x < size t → t.begins x ≡ true → ⊥) → NotForetold t m
  none_begins none = record { N = 0; delay = d; none = inr (λ x a. let k = next_known a in none x k.0 k.1) }

  pub none_high : HighSoon t m → ⊥
  none_high h = let k = high_by d h in omega (arith, k.within)
