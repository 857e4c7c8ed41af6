-- Where every word may begin, an opening that two sequences share can be left out: what is left is permitted too, begins with different words, ends with the
-- same last words, and has no more symbols.
use Rattle.std.specs.Prelude.{◌≡◌, refl, true, List, [], ◌∷◌, ◌++◌, ◌⊎◌, ℕ, ◌<◌, length}
use Rattle.std.proofs.Common.{sym, ap, ◌∙◌, subst, inl, inr, arith, length-append}
use Rattle.std.proofs.lemmas.List.{append_cancel_left}
use Rattle.std.proofs.Math.Decide.{ℕ_discrete}
use Rattle.code.specs.Definitions.Tables.{Table, size, word, Linked, message}
use Rattle.code.specs.Laws.Openings.{rivals_begin}
use Rattle.code.specs.Laws.Sequences.{first_word, rest_linked}
use Rattle.pair_theory.specs.Places.{Place, first_place, Plain, Path, ApartEnds, Parting, Compatible, TwoEnds}
use Rattle.pair_theory.specs.Paths.{last_of, sequence_from}
use Rattle.pair_theory.specs.Ends.{end_place, ends_same, end_ends, whole_path}
use Rattle.pair_theory.specs.Ambiguity.{message_long, last_known}

abbrev pub AllBegin : Table → Type 0
AllBegin t = (x : ℕ) → x < size t → t.begins x ≡ true

-- Two different words lead over n to the ends of different words; n is m or has fewer symbols.
pub record Unopened (t : Table) (m : List ℕ) : Type 0 where
  pub n : List ℕ
  pub p : Place
  pub q : Place
  pub pair : Compatible t (Parting t) n p q
  pub ends : ApartEnds t p q
  pub order : (n ≡ m) ⊎ (length n < length m)

module _ (t : Table) (plain : Plain t) (all : AllBegin t) where
  parted : {x y : ℕ} {s u : List ℕ} → Linked t (x ∷ s) → Linked t (y ∷ u) → message t (x ∷ s) ≡ message t (y ∷ u) → (last_of x s ≡ last_of y u → ⊥) → (x ≡ y → ⊥)
      → Unopened t (message t (x ∷ s))
  parted {x} {y} {s} {u} g h e d f = record {
    n = message t (x ∷ s);
    p = end_place t (last_of x s);
    q = end_place t (last_of y u);
    pair = record {
      x = x;
      y = y;
      left_known = first_word g;
      right_known = first_word h;
      starts = record { differ = f; rivals = rivals_begin (all x (first_word g)) (all y (first_word h)) };
      left = whole_path plain x s g;
      right = subst (λ (z : List ℕ). Path t (first_place y) z (end_place t (last_of y u))) (sym e) (whole_path plain y u h);
    };
    ends = record {
      left = end_ends t plain (last_known plain x s g);
      right = end_ends t plain (last_known plain y u h);
      apart = λ z. d (ap (λ (r : Place). r.w) z);
    };
    order = inl refl;
  }

  -- One word in front is left out.
  less : (x : ℕ) (s : List ℕ) → x < size t → Unopened t (message t s) → Unopened t (message t (x ∷ s))
  less x s h r = record { n = r.n; p = r.p; q = r.q; pair = r.pair; ends = r.ends; order = inr (by r.order) }
    where
      longer : length (message t s) < length (message t (x ∷ s))
      longer = simp length-append (omega (arith, plain.some x h))

      by : (r.n ≡ message t s) ⊎ (length r.n < length (message t s)) → length r.n < length (message t (x ∷ s))
      by (inl e) = let z = ap length e in omega (arith, longer)
      by (inr l) = omega (arith, longer)

  rest_same : (x y : ℕ) (s u : List ℕ) → x ≡ y → message t (x ∷ s) ≡ message t (y ∷ u) → message t s ≡ message t u
  rest_same x y s u f e = append_cancel_left (word t x) (message t s) (message t u) (e ∙ ap (λ (z : ℕ). word t z ++ message t u) (sym f))

  by_first : (x y : ℕ) (s u : List ℕ) → Linked t (x ∷ s) → Linked t (y ∷ u) → message t (x ∷ s) ≡ message t (y ∷ u) → (last_of x s ≡ last_of y u → ⊥)
      → (x ≡ y → message t s ≡ message t u → Unopened t (message t s)) → Dec (x ≡ y) → Unopened t (message t (x ∷ s))
  by_first x y s u g h e d rest (yes f) = less x s (first_word g) (rest f (rest_same x y s u f e))
  by_first x y s u g h e d rest (no f) = parted g h e d f

  unopened : (x y : ℕ) (s u : List ℕ) → Linked t (x ∷ s) → Linked t (y ∷ u) → message t (x ∷ s) ≡ message t (y ∷ u) → (last_of x s ≡ last_of y u → ⊥)
      → Unopened t (message t (x ∷ s))
  unopened x y [] [] g h e d = by_first x y [] [] g h e d (λ f k. absurd (d f)) (ℕ_discrete x y)
  unopened x y [] (b ∷ u) g h e d = by_first x y [] (b ∷ u) g h e d (λ f k. absurd (omega (arith, message_long plain (rest_linked h), ap length k))) (ℕ_discrete x y)
  unopened x y (a ∷ s) [] g h e d = by_first x y (a ∷ s) [] g h e d (λ f k. absurd (omega (arith, message_long plain (rest_linked g), ap length k))) (ℕ_discrete x y)
  unopened x y (a ∷ s) (b ∷ u) g h e d =
      by_first x y (a ∷ s) (b ∷ u) g h e d (λ f k. unopened a b s u (rest_linked g) (rest_linked h) k d) (ℕ_discrete x y)

  -- Two ends are reached without an opening, by no more symbols.
  pub ends_unopened : {m : List ℕ} → TwoEnds t m → Unopened t m
  ends_unopened h =
      let a = sequence_from t plain h.pair.left_known h.pair.left in
      let b = sequence_from t plain h.pair.right_known h.pair.right in
      let c = a.whole h.left_ends in
      let differ : last_of h.pair.x a.s ≡ last_of h.pair.y b.s → ⊥ = λ e. h.apart (ends_same t h.left_ends h.right_ends (sym a.last ∙ e ∙ b.last)) in
      subst (Unopened t) c (unopened h.pair.x h.pair.y a.s b.s a.linked b.linked (c ∙ sym (b.whole h.right_ends)) differ)
