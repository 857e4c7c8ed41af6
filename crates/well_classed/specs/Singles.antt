-- Ranges that take in one letter each: they give every byte its class, and take in none twice.
use Rattle.std.specs.Prelude.{◌≡◌, false, List, ◌∷◌, map, ℕ, ◌≤◌, ◌<◌, eqb}
use Rattle.std.proofs.Math.Path.{refl}
use Rattle.std.proofs.Common.{◌∙◌, arith, below_more}
use borrow.Author.Tests.{ltb-false, ne_eqb, eq-eqb}
use Rattle.code.specs.Definitions.ClassSheets.{Range, takes_in, takers, class_by}
use Rattle.code.specs.Definitions.Texts.{other, class_of, is_letter}
use Rattle.code.specs.Laws.Exactly.{exactly_iff, exactly_and, exactly_le, exactly_eq, exactly_same}
use Rattle.well_classed.specs.Letters.{Letters, none, letter, past}

module _ (c : List ℕ) where
  -- the range of one byte
  abbrev pub single : ℕ → Range
  single a = record { lowest = a; highest = a; symbol = class_of c a }

  pub takes_single : (a b : ℕ) → takes_in b (single a) ≡ eqb a b
  takes_single a b = exactly_same (exactly_iff ((λ p. omega arith), (λ e. (omega arith, omega arith))) (exactly_and (exactly_le a b) (exactly_le b a))) (exactly_eq a b)

  -- At most n of the ranges of these letters take in byte b, and they give it class y.
  pub record Takes (l : List ℕ) (b n y : ℕ) : Type 0 where
    pub most : takers b (map single l) ≤ n
    pub class : class_by (map single l) b ≡ y

  module _ {l : List ℕ} where
    -- One more range, of another byte; of this byte; and no more for a byte that is no letter.
    not_first : (a b : ℕ) {n y : ℕ} → (a ≡ b → ⊥) → Takes l b n y → Takes (a ∷ l) b n y
    unfolding takers class_by
    not_first a b apart t =
        let not_taken = takes_single a b ∙ ne_eqb a b apart in
        record { most = rw not_taken (omega (arith, t.most)); class = rw not_taken t.class }

    first_takes : (a : ℕ) → Takes l a 0 other → Takes (a ∷ l) a 1 (class_of c a)
    unfolding takers class_by
    first_takes a t =
        let taken = takes_single a a ∙ eq-eqb a a refl in
        record { most = rw taken (omega (arith, t.most)); class = rw taken }

    no_letter : (b : ℕ) → is_letter c b ≡ false → class_of c b ≤ other → Takes l b 0 other → Takes l b 1 (class_of c b)
    no_letter b e h t =
        let least = ltb-false (class_of c b) other e in
        record { most = omega (arith, t.most); class = t.class ∙ omega arith }

  -- The bytes from n on are in none of the ranges of the letters below n.
  takes_above : {n : ℕ} {l : List ℕ} → Letters c n l → (b : ℕ) → n ≤ b → Takes l b 0 other
  unfolding takers class_by
  takes_above none b h = record { most = omega arith; class = refl }
  takes_above (letter {n} e d) b h = not_first n b (λ q. omega arith) (takes_above d b (omega arith))
  takes_above (past e d) b h = takes_above d b (omega arith)

  -- Those below n have their classes by them.
  pub takes_below : {n : ℕ} {l : List ℕ} → Letters c n l → ((b : ℕ) → b < n → class_of c b ≤ other) → (b : ℕ) → b < n → Takes l b 1 (class_of c b)
  takes_below none small b h = absurd (omega arith)
  takes_below (letter {n} {l} e d) small b h =
      below_more (λ a. Takes (n ∷ l) a 1 (class_of c a)) n (λ a k. not_first n a (λ q. omega arith) (takes_below d (λ i j. small i (omega arith)) a k))
      (first_takes n (takes_above d n (omega arith))) b (omega arith)
  takes_below (past {n} {l} e d) small b h =
      below_more (λ a. Takes l a 1 (class_of c a)) n (takes_below d (λ i j. small i (omega arith)))
      (no_letter n e (small n (omega arith)) (takes_above d n (omega arith))) b (omega arith)
