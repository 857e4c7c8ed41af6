-- The places of a table, and the unordered pairs of its places, are finitely many: each has a number of its own, below the number of all.
use Rattle.std.specs.Prelude.{◌≡◌, map, ◌⊎◌, ℕ, ◌+◌, ◌*◌, ◌/◌, ◌≤◌, ◌<◌}
use Rattle.std.proofs.Math.Logic.{inl, inr}
use Rattle.std.proofs.Math.ListN.{length}
use Rattle.code.specs.Definitions.Lists.{sum}
use Rattle.code.specs.Definitions.Tables.{Table, size, word}
use Rattle.pair_theory.specs.Places.{Place, Is}
use Rattle.pair_theory.specs.Ends.{place_eq}
use Rattle.pair_theory.specs.Numbering.{up_to, pairs_mono, slot_below, slot_unique, up_to_words, unordered, unordered_below, unordered_unique}

module _ (t : Table) where
  -- the number of places: of symbols of all words together
  unfoldable pub place_count : ℕ
  place_count = sum (map length t.words)

  -- 01: with 128 places, "at most 128 × 129 / 2 = 8,256 unordered pairs"
  unfoldable pub pair_count : ℕ
  unfolding place_count
  pair_count = place_count * (place_count + 1) / 2

  -- the number of a place, along the words joined
  unfoldable pub place_number : Place → ℕ
  place_number p = up_to (λ x. length (word t x)) p.w + p.k

  -- the number of an unordered pair of places
  unfoldable pub pair_number : Place → Place → ℕ
  unfolding place_number
  pair_number p q = unordered (place_number p) (place_number q)

module _ {t : Table} where
  -- Each place has a number below the number of places,
  pub place_below : {p : Place} → Is t p → place_number t p < place_count t
  unfolding place_number place_count
  place_below {p} i = rw (← up_to_words t.words) (slot_below (λ x. length (word t x)) p.w p.k (size t) i.within i.known)

  -- of its own;
  pub place_unique : {p q : Place} → Is t p → Is t q → place_number t p ≡ place_number t q → p ≡ q
  unfolding place_number
  place_unique {p} {q} i j e =
      let r = slot_unique (λ x. length (word t x)) p.w p.k q.w q.k i.within j.within e in
      place_eq r.0 r.1

  -- and each unordered pair one below the number of unordered pairs.
  pub pair_below : {p q : Place} → Is t p → Is t q → pair_number t p q < pair_count t
  unfolding pair_number pair_count
  pair_below {p} {q} i j = unordered_below (place_number t p) (place_number t q) (place_count t) (place_below i) (place_below j)

  -- Pairs with the same number are the same, in the same order or in the other.
  pub pair_unique : {p q a b : Place} → Is t p → Is t q → Is t a → Is t b → pair_number t p q ≡ pair_number t a b → ((p ≡ a) × (q ≡ b)) ⊎ ((p ≡ b) × (q ≡ a))
  unfolding pair_number
  pair_unique {p} {q} {a} {b} i j k l e = go (unordered_unique (place_number t p) (place_number t q) (place_number t a) (place_number t b) e)
    where
      go : ((place_number t p ≡ place_number t a) × (place_number t q ≡ place_number t b)) ⊎ ((place_number t p ≡ place_number t b) × (place_number t q ≡ place_number t a))
          → ((p ≡ a) × (q ≡ b)) ⊎ ((p ≡ b) × (q ≡ a))
      go (inl h) = inl (place_unique i k h.0, place_unique j l h.1)
      go (inr h) = inr (place_unique i l h.0, place_unique j k h.1)

-- A limit on the places is a limit on their unordered pairs.
pub pairs_within : (t : Table) (P : ℕ) → place_count t ≤ P → pair_count t ≤ P * (P + 1) / 2
unfolding pair_count
pairs_within t P h = pairs_mono (place_count t) P h
