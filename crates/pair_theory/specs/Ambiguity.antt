-- A message with two different readings exists where two paths from beginnings lead over the same symbols to the ends of different words. Two readings that
-- end with the same word are stripped of it, which leaves permitted sequences; a shared opening stays part of the paths.
use Rattle.std.specs.Prelude.{◌≡◌, refl, ◌⊎◌, ◌↔◌, ℕ, zero, suc, ◌≤◌, ◌<◌, length}
use Rattle.std.proofs.Common.{sym, ap, ◌∙◌, subst, inl, inr, arith, length-append}
use mathlib.Core.List.{List, [], ◌∷◌, ◌++◌, append-nil, append_cancel_left, append_cancel_right, head-eq_of_cons-eq, List-discrete}
use Rattle.std.proofs.Math.Decide.{ℕ_discrete}
use Rattle.code.specs.Definitions.Tables.{Table, size, word, Linked, Permitted, message}
use Rattle.code.specs.Definitions.Orders.{Shortlex, shorter, earlier}
use Rattle.code.specs.Definitions.Readings.{FirstTwo, TwoReadings, Ambiguous, Decipherable}
use Rattle.code.specs.Laws.Openings.{rivals_open}
use Rattle.code.specs.Laws.Readings.{decipherable_not_two}
use Rattle.code.specs.Laws.Sequences.{first_word, rest_linked, permitted_linked, first_begins, cut_permitted, free_permitted, message_append}
use Rattle.pair_theory.specs.Places.{Place, first_place, Plain, Path, Ends, Parting, Compatible, TwoEnds, NoTwoEnds}
use Rattle.pair_theory.specs.Paths.{last_of, sequence_from}
use Rattle.pair_theory.specs.Ends.{end_place, ends_same, end_ends, whole_path}

-- A list without its last entry.
abbrev pub init_of : ℕ → List ℕ → List ℕ
init_of x [] = []
init_of x (y ∷ s) = x ∷ init_of y s

-- A list that is not empty is what it is without its last entry, and that entry.
pub init_last : (x : ℕ) (s : List ℕ) → x ∷ s ≡ init_of x s ++ (last_of x s ∷ [])
init_last x [] = refl
init_last x (y ∷ s) = ap (◌∷◌ x) (init_last y s)

init_length : (x : ℕ) (s : List ℕ) → length (init_of x s) ≡ length s
init_length x [] = refl
init_length x (y ∷ s) = ap suc (init_length y s)

-- the last entry of a list, 0 where there is none
abbrev last_entry : List ℕ → ℕ
last_entry [] = 0
last_entry (x ∷ s) = last_of x s

longer : (a w b : List ℕ) → b ≡ a ++ w → 1 ≤ length w → length a < length b
longer a w b e h = rw e (simp length-append (omega arith))

module _ (t : Table) where
  -- The message of a sequence ends with its last word.
  pub message_last : (x : ℕ) (s : List ℕ) → message t (x ∷ s) ≡ message t (init_of x s) ++ word t (last_of x s)
  message_last x s =
      ap (message t) (init_last x s) ∙ message_append t (init_of x s) (last_of x s ∷ []) ∙ ap (λ (z : List ℕ). message t (init_of x s) ++ z) (append-nil (word t (last_of x s)))

  -- Without an equal last word messages that are equal are equal.
  pub init_same : (x y : ℕ) (s u : List ℕ) → last_of x s ≡ last_of y u → message t (x ∷ s) ≡ message t (y ∷ u) → message t (init_of x s) ≡ message t (init_of y u)
  init_same x y s u f e =
      append_cancel_right (message t (init_of x s)) (message t (init_of y u)) (word t (last_of x s))
      (sym (message_last x s) ∙ e ∙ message_last y u ∙ ap (λ (z : ℕ). message t (init_of y u) ++ word t z) (sym f))

  -- Symbols m that reach two ends, and are the message n or fewer.
  pub record Stripped (n : List ℕ) : Type 0 where
    pub m : List ℕ
    pub ends : TwoEnds t m
    pub order : (m ≡ n) ⊎ (length m < length n)

  -- m is the first, in order of length and then of symbols, of all that reach two ends.
  pub record LeastTwoEnds (m : List ℕ) : Type 0 where
    pub ends : TwoEnds t m
    pub least : (n : List ℕ) → TwoEnds t n → (m ≡ n) ⊎ Shortlex m n

-- What comes before a list in shortlex order, or is that list, is no longer.
pub at_most : (m n : List ℕ) → (m ≡ n) ⊎ Shortlex m n → length m ≤ length n
at_most m n (inl e) = omega (arith, ap length e)
at_most m n (inr (shorter l)) = omega arith
at_most m n (inr (earlier e l)) = omega arith

-- In a decipherable code sequences that go on with different words behind an opening have different messages behind it.
pub parted_differ : {t : Table} → Decipherable t → (o : List ℕ) (x y : ℕ) (s u : List ℕ) → Permitted t (o ++ (x ∷ s)) → Permitted t (o ++ (y ∷ u))
    → (x ≡ y → ⊥) → message t (x ∷ s) ≡ message t (y ∷ u) → ⊥
parted_differ {t} d o x y s u g h n e =
    let f = message_append t o (x ∷ s) ∙ ap (λ (i : List ℕ). message t o ++ i) e ∙ sym (message_append t o (y ∷ u)) in
    n (head-eq_of_cons-eq (append_cancel_left o (x ∷ s) (y ∷ u) (d _ _ g h f)))

module _ {t : Table} (plain : Plain t) where
  -- A sequence that is not empty has a message that is not empty.
  pub message_long : {x : ℕ} {s : List ℕ} → Linked t (x ∷ s) → 1 ≤ length (message t (x ∷ s))
  message_long {x} {s} g = simp length-append (omega (arith, plain.some x (first_word g)))

  -- Two ends give the path's symbols two readings, which end with different words.
  pub ends→readings : {m : List ℕ} → TwoEnds t m → TwoReadings t m
  ends→readings h =
      let a = sequence_from t plain h.pair.left_known h.pair.left in
      let b = sequence_from t plain h.pair.right_known h.pair.right in
      record {
        s = h.pair.x ∷ a.s;
        u = h.pair.y ∷ b.s;
        first = record { permitted = free_permitted plain.free h.pair.starts.left a.linked; joined = a.whole h.left_ends };
        second = record { permitted = free_permitted plain.free h.pair.starts.right b.linked; joined = b.whole h.right_ends };
        differ = λ e. h.apart (ends_same t h.left_ends h.right_ends (sym a.last ∙ ap last_entry e ∙ b.last));
      }

  -- Two sequences with the same message that end with different words reach two ends by all of it.
  last_words : {x y : ℕ} {s u : List ℕ} → Permitted t (x ∷ s) → Permitted t (y ∷ u) → last_of x s < size t → last_of y u < size t
      → message t (x ∷ s) ≡ message t (y ∷ u) → (last_of x s ≡ last_of y u → ⊥) → TwoEnds t (message t (x ∷ s))
  last_words {x} {y} {s} {u} g h k l e d =
      let a = permitted_linked g in
      let b = permitted_linked h in
      record {
        p = end_place t (last_of x s);
        q = end_place t (last_of y u);
        pair = record {
          x = x;
          y = y;
          left_known = first_word a;
          right_known = first_word b;
          starts = record { left = first_begins g; right = first_begins h };
          left = whole_path plain x s a;
          right = subst (λ (z : List ℕ). Path t (first_place y) z (end_place t (last_of y u))) (sym e) (whole_path plain y u b);
        };
        left_ends = end_ends t plain k;
        right_ends = end_ends t plain l;
        apart = λ z. d (ap (λ (r : Place). r.w) z);
      }

  -- The words of a sequence, its last one too.
  pub last_known : (x : ℕ) (s : List ℕ) → Linked t (x ∷ s) → last_of x s < size t
  last_known x [] l = first_word l
  last_known x (y ∷ s) l = last_known y s (rest_linked l)

  stripped_more : {x : ℕ} {s : List ℕ} → Permitted t (x ∷ s) → Stripped t (message t (init_of x s)) → Stripped t (message t (x ∷ s))
  stripped_more {x} {s} g h = record { m = h.m; ends = h.ends; order = inr (by h.order) }
    where
      less : length (message t (init_of x s)) < length (message t (x ∷ s))
      less = longer (message t (init_of x s)) (word t (last_of x s)) (message t (x ∷ s)) (message_last t x s) (plain.some (last_of x s) (last_known x s (permitted_linked g)))

      by : (h.m ≡ message t (init_of x s)) ⊎ (length h.m < length (message t (init_of x s))) → length h.m < length (message t (x ∷ s))
      by (inl e) = let z = ap length e in omega (arith, less)
      by (inr l) = omega (arith, less)

  init_permitted : {x : ℕ} {s : List ℕ} → Permitted t (x ∷ s) → Permitted t (init_of x s)
  init_permitted {x} {s} g = cut_permitted (init_of x s) (last_of x s ∷ []) (subst (Permitted t) (init_last x s) g)

  strip_last : {x y : ℕ} {s u : List ℕ} → Permitted t (x ∷ s) → Permitted t (y ∷ u) → message t (x ∷ s) ≡ message t (y ∷ u) → (x ∷ s ≡ y ∷ u → ⊥)
      → (message t (init_of x s) ≡ message t (init_of y u) → (init_of x s ≡ init_of y u → ⊥) → Stripped t (message t (init_of x s)))
      → Dec (last_of x s ≡ last_of y u) → Stripped t (message t (x ∷ s))
  strip_last {x} {y} {s} {u} g h e d ih (yes f) =
      stripped_more g (ih (init_same t x y s u f e) (λ z. d (init_last x s ∙ ap (λ (i : List ℕ). i ++ (last_of x s ∷ [])) z ∙ ap (λ (i : ℕ). init_of y u ++ (i ∷ [])) f ∙ sym (init_last y u))))
  strip_last {x} {y} {s} {u} g h e d ih (no f) = record {
    m = message t (x ∷ s);
    ends = last_words g h (last_known x s (permitted_linked g)) (last_known y u (permitted_linked h)) e f;
    order = inl refl;
  }

  no_message : {x : ℕ} {s : List ℕ} → Permitted t (x ∷ s) → [] ≡ message t (x ∷ s) → ⊥
  no_message g e = omega (arith, message_long (permitted_linked g), ap length e)

  strip : (k : ℕ) (s u : List ℕ) → length s < k → Permitted t s → Permitted t u → message t s ≡ message t u → (s ≡ u → ⊥) → Stripped t (message t s)
  strip zero s u l g h e d = absurd (omega arith)
  strip (suc k) [] [] l g h e d = absurd (d refl)
  strip (suc k) [] (y ∷ u) l g h e d = absurd (no_message h e)
  strip (suc k) (x ∷ s) [] l g h e d = absurd (no_message g (sym e))
  strip (suc k) (x ∷ s) (y ∷ u) l g h e d =
      strip_last g h e d (strip k (init_of x s) (init_of y u) (omega (arith, init_length x s)) (init_permitted g) (init_permitted h)) (ℕ_discrete (last_of x s) (last_of y u))

  stripped : (s u : List ℕ) → Permitted t s → Permitted t u → message t s ≡ message t u → (s ≡ u → ⊥) → Stripped t (message t s)
  stripped s u g h e d = strip (suc (length s)) s u (omega arith) g h e d

  -- Where n has two readings, two ends are reached by n or by fewer symbols.
  pub readings→ends : {n : List ℕ} → TwoReadings t n → Stripped t n
  readings→ends r = subst (Stripped t) r.first.joined (stripped r.s r.u r.first.permitted r.second.permitted (r.first.joined ∙ sym r.second.joined) r.differ)

  -- A code has a message with two readings exactly if two ends are reached.
  pub ambiguous_iff : ((n : List ℕ) × TwoReadings t n) ↔ ((m : List ℕ) × TwoEnds t m)
  ambiguous_iff = (λ r. let h = readings→ends r.1 in (h.m, h.ends), λ h. (h.0, ends→readings h.1))

  -- No two ends: no two permitted sequences have the same message.
  pub decipherable : NoTwoEnds t → Decipherable t
  decipherable n s u g h e = go (List-discrete ℕ_discrete s u)
    where
      go : Dec (s ≡ u) → s ≡ u
      go (yes f) = f
      go (no f) = let z = stripped s u g h e f in absurd (n z.m z.ends)

  -- Decipherable: no two ends.
  pub no_two_ends_lem : Decipherable t → NoTwoEnds t
  no_two_ends_lem d m h = decipherable_not_two (ends→readings h) d

  later : (m n : List ℕ) → LeastTwoEnds t m → (z : Stripped t n) → (z.m ≡ n) ⊎ (length z.m < length n) → (m ≡ n) ⊎ Shortlex m n
  later m n l z (inl e) = subst (λ (k : List ℕ). (m ≡ k) ⊎ Shortlex m k) e (l.least z.m z.ends)
  later m n l z (inr h) = inr (shorter (omega (arith, at_most m z.m (l.least z.m z.ends))))

  -- The first symbols that reach two ends are the first message with two readings, in order of length and then of symbols.
  pub least_readings : {m : List ℕ} → LeastTwoEnds t m → (n : List ℕ) → TwoReadings t n → (m ≡ n) ⊎ Shortlex m n
  least_readings {m} l n r = let z = readings→ends r in later m n l z z.order

  -- So they come before every other message with two readings.
  pub least_message : {m : List ℕ} → LeastTwoEnds t m → (n : List ℕ) → TwoReadings t n → (n ≡ m → ⊥) → Shortlex m n
  least_message {m} l n r d = go (least_readings l n r)
    where
      go : (m ≡ n) ⊎ Shortlex m n → Shortlex m n
      go (inl e) = absurd (d (sym e))
      go (inr h) = h

  -- With the first two readings of that message the code is shown to be ambiguous.
  pub ambiguous : {m s u : List ℕ} → LeastTwoEnds t m → FirstTwo t m s u → Ambiguous t m s u
  ambiguous l f = record { readings = f; least = least_message l }

  -- In a decipherable code no compatible pair of rivals is one of two ends: with an opening these would be two readings.
  pub parting_ends : Decipherable t → {m : List ℕ} {p q : Place} → Compatible t (Parting t) m p q → Ends t p → Ends t q → ⊥
  parting_ends d h l r =
      let a = sequence_from t plain h.left_known h.left in
      let b = sequence_from t plain h.right_known h.right in
      let z = rivals_open plain.free h.starts.rivals in
      parted_differ d z.o h.x h.y a.s b.s (z.left a.s a.linked) (z.right b.s b.linked) h.starts.differ (a.whole l ∙ sym (b.whole r))
