-- A decipherable code is one in which no compatible pair of rivals is one of two ends: two different sequences with the same message share an opening, and
-- behind it go on with rivals. So 01's test, "A pair of two ends means ambiguous", stands with the first pairs of request 1.
use Rattle.std.specs.Prelude.{◌≡◌, refl, ◌↔◌, ℕ, length}
use Rattle.std.proofs.Common.{sym, ap, ◌∙◌, subst, arith}
use mathlib.Core.List.{List, [], ◌∷◌, ◌++◌, append_assoc, append_cancel_left, List-discrete}
use Rattle.std.proofs.Math.Decide.{ℕ_discrete}
use Rattle.code.specs.Definitions.Tables.{Table, word, Linked, Permitted, message}
use Rattle.code.specs.Definitions.Readings.{Decipherable}
use Rattle.code.specs.Laws.Openings.{Parted, open_rivals}
use Rattle.code.specs.Laws.Sequences.{first_word, permitted_linked, behind_linked}
use Rattle.pair_theory.specs.Places.{Place, first_place, Plain, Path, Ends, Parting, Compatible}
use Rattle.pair_theory.specs.Paths.{last_of}
use Rattle.pair_theory.specs.Ends.{end_place, end_ends, whole_path}
use Rattle.pair_theory.specs.Ambiguity.{message_long, last_known, parting_ends}

module _ (t : Table) where
  -- Behind some opening, two sequences that go on with different words read m to two ends.
  pub record PartingEnds : Type 0 where
    pub m : List ℕ
    pub p : Place
    pub q : Place
    pub pair : Compatible t (Parting t) m p q
    pub left_ends : Ends t p
    pub right_ends : Ends t q

module _ {t : Table} (plain : Plain t) where
  parted_ends : {x y : ℕ} {s u : List ℕ} → Parted t x y s u → (x ≡ y → ⊥) → message t (x ∷ s) ≡ message t (y ∷ u) → PartingEnds t
  parted_ends {x} {y} {s} {u} h d e = record {
    m = message t (x ∷ s);
    p = end_place t (last_of x s);
    q = end_place t (last_of y u);
    pair = record {
      x = x;
      y = y;
      left_known = first_word h.left;
      right_known = first_word h.right;
      starts = record { differ = d; rivals = h.rivals };
      left = whole_path plain x s h.left;
      right = subst (λ (z : List ℕ). Path t (first_place y) z (end_place t (last_of y u))) (sym e) (whole_path plain y u h.right);
    };
    left_ends = end_ends t plain (last_known plain x s h.left);
    right_ends = end_ends t plain (last_known plain y u h.right);
  }

  part_head : (o : List ℕ) {x y : ℕ} {s u : List ℕ} → Parted t x y s u → message t (x ∷ s) ≡ message t (y ∷ u) → (x ∷ s ≡ y ∷ u → ⊥)
      → (x ≡ y → message t s ≡ message t u → (s ≡ u → ⊥) → PartingEnds t) → Dec (x ≡ y) → PartingEnds t
  part_head o {x} {y} {s} {u} h e d ih (yes f) =
      let e' : word t x ++ message t s ≡ word t x ++ message t u = e ∙ ap (λ (z : ℕ). word t z ++ message t u) (sym f) in
      ih f (append_cancel_left (word t x) (message t s) (message t u) e') (λ k. d (cc))
  part_head o h e d ih (no f) = parted_ends h f e

  no_message : {x : ℕ} {s : List ℕ} → Linked t (x ∷ s) → [] ≡ message t (x ∷ s) → ⊥
  no_message g e = omega (arith, message_long plain g, ap length e)

  longer : (o : List ℕ) (x : ℕ) (s : List ℕ) → Permitted t (o ++ (x ∷ s)) → Permitted t ((o ++ (x ∷ [])) ++ s)
  longer o x s g = subst (Permitted t) (sym (append_assoc o (x ∷ []) s)) g

  longer_other : (o : List ℕ) (x y : ℕ) (u : List ℕ) → x ≡ y → Permitted t (o ++ (y ∷ u)) → Permitted t ((o ++ (x ∷ [])) ++ u)
  longer_other o x y u e g = longer o x u (subst (λ (z : ℕ). Permitted t (o ++ (z ∷ u))) (sym e) g)

  part : (o s u : List ℕ) → Permitted t (o ++ s) → Permitted t (o ++ u) → message t s ≡ message t u → (s ≡ u → ⊥) → PartingEnds t
  part o [] [] g h e d = absurd (d refl)
  part o [] (y ∷ u) g h e d = absurd (no_message (behind_linked o (y ∷ u) (permitted_linked h)) e)
  part o (x ∷ s) [] g h e d = absurd (no_message (behind_linked o (x ∷ s) (permitted_linked g)) (sym e))
  part o (x ∷ s) (y ∷ u) g h e d =
      part_head o (open_rivals o g h) e d (λ f. part (o ++ (x ∷ [])) s u (longer o x s g) (longer_other o x y u f h)) (ℕ_discrete x y)

  -- No compatible pair of rivals is one of two ends: the code is decipherable.
  pub parting_decipherable : (PartingEnds t → ⊥) → Decipherable t
  parting_decipherable none s u g h e = go (List-discrete ℕ_discrete s u)
    where
      go : Dec (s ≡ u) → s ≡ u
      go (yes f) = f
      go (no f) = absurd (none (part [] s u g h e f))

  -- And the other way round.
  pub decipherable_iff : Decipherable t ↔ (PartingEnds t → ⊥)
  decipherable_iff = (λ d r. parting_ends plain d r.pair r.left_ends r.right_ends, parting_decipherable)
