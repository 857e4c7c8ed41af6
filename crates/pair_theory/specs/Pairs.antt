-- Compatible pairs are those of 000: one symbol reaches the first pairs, and each further symbol is one common step of both places.
use Rattle.std.specs.Prelude.{◌≡◌, refl, List, [], ◌∷◌, ◌++◌, ◌↔◌, ℕ, ◌≤◌, length}
use Rattle.std.proofs.Common.{sym, ◌∙◌, subst, append_assoc}
use Rattle.code.specs.Definitions.Tables.{Table}
use Rattle.pair_theory.specs.Places.{Place, first_place, Plain, symbol, Is, Step, Path, here, then, Compatible, FirstPair, CommonStep, Reached, start, onward}
use Rattle.pair_theory.specs.LastSteps.{no_path, path_long, path_is, path_step, last_step}
use Rattle.pair_theory.specs.Paths.{first_is}

module _ (t : Table) (S : ℕ → ℕ → Type 0) where
  -- A pair that m reaches, and a common step of it that reads c.
  pub record Extended (m : List ℕ) (c : ℕ) (p' q' : Place) : Type 0 where
    pub p : Place
    pub q : Place
    pub pair : Compatible t S m p q
    pub step : CommonStep t p q p' q'
    pub reads : symbol t p' ≡ c

module _ {t : Table} where
  pub common_swap : {p q p' q' : Place} → CommonStep t p q p' q' → CommonStep t q p q' p'
  common_swap h = record { left = h.right; right = h.left; same = sym h.same }

  single : {p q : Place} {c : ℕ} → Path t p (c ∷ []) q → (q ≡ p) × (symbol t q ≡ c)
  single (here e) = (refl, e)
  single (then e s a) = absurd (no_path a)

module _ {t : Table} {S : ℕ → ℕ → Type 0} where
  first→compatible : {c : ℕ} {p q : Place} → FirstPair t S p q × (symbol t p ≡ c) → Compatible t S (c ∷ []) p q
  first→compatible {c} {p} {q} h = record {
    x = h.0.x;
    y = h.0.y;
    left_known = h.0.left_known;
    right_known = h.0.right_known;
    starts = h.0.starts;
    left = subst (λ (z : Place). Path t z (c ∷ []) p) h.0.left (here h.1);
    right = subst (λ (z : Place). Path t z (c ∷ []) q) h.0.right (here (sym h.0.same ∙ h.1));
  }

  -- The first places of a compatible pair's two words.
  first_of : {m : List ℕ} {p q a b : Place} (h : Compatible t S m p q) → a ≡ first_place h.x → b ≡ first_place h.y → symbol t a ≡ symbol t b → FirstPair t S a b
  first_of h e f g = record {
    x = h.x;
    y = h.y;
    left_known = h.left_known;
    right_known = h.right_known;
    starts = h.starts;
    left = e;
    right = f;
    same = g;
  }

  -- Other paths from a compatible pair's two words.
  with_paths : {m n : List ℕ} {p q p' q' : Place} (h : Compatible t S m p q) → Path t (first_place h.x) n p' → Path t (first_place h.y) n q' → Compatible t S n p' q'
  with_paths h a b = record {
    x = h.x;
    y = h.y;
    left_known = h.left_known;
    right_known = h.right_known;
    starts = h.starts;
    left = a;
    right = b;
  }

  compatible→first : {c : ℕ} {p q : Place} → Compatible t S (c ∷ []) p q → FirstPair t S p q × (symbol t p ≡ c)
  compatible→first h =
      let l = single h.left in
      let r = single h.right in
      (first_of h l.0 r.0 (l.1 ∙ sym r.1), l.1)

  -- One symbol reaches the first pairs that read it, and no other pair.
  pub one_symbol : {c : ℕ} {p q : Place} → Compatible t S (c ∷ []) p q ↔ (FirstPair t S p q × (symbol t p ≡ c))
  one_symbol = (compatible→first, first→compatible)

  -- One common step, and its symbol, lead a compatible pair on.
  pub compatible_step : {m : List ℕ} {c : ℕ} {p' q' : Place} → Extended t S m c p' q' → Compatible t S (m ++ (c ∷ [])) p' q'
  compatible_step h =
      with_paths h.pair (path_step h.pair.left h.step.left h.reads) (path_step h.pair.right h.step.right (sym h.step.same ∙ h.reads))

  compatible→extended : {m : List ℕ} {c d : ℕ} {p' q' : Place} → Compatible t S (d ∷ (m ++ (c ∷ []))) p' q' → Extended t S (d ∷ m) c p' q'
  compatible→extended {m} h =
      let l = last_step m h.left in
      let r = last_step m h.right in
      record {
        p = l.q;
        q = r.q;
        pair = with_paths h l.path r.path;
        step = record { left = l.step; right = r.step; same = l.reads ∙ sym r.reads };
        reads = l.reads;
      }

  -- One symbol more, after at least one, is one common step of both places.
  pub one_more : {m : List ℕ} {c d : ℕ} {p' q' : Place} → Compatible t S ((d ∷ m) ++ (c ∷ [])) p' q' ↔ Extended t S (d ∷ m) c p' q'
  one_more = (compatible→extended, compatible_step)

  reached→compatible : {m : List ℕ} {p q : Place} → Reached t S m p q → Compatible t S m p q
  reached→compatible (start f e) = first→compatible (f, e)
  reached→compatible (onward {p = p} {q = q} r s e) = compatible_step (record { p = p; q = q; pair = reached→compatible r; step = s; reads = e })

  reached_cast : {l m : List ℕ} {p q : Place} → l ≡ m → Reached t S l p q → Reached t S m p q
  reached_cast {p = p} {q = q} e r = subst (λ (z : List ℕ). Reached t S z p q) e r

  walk_last : {l : List ℕ} {p q p' q' : Place} {c : ℕ} → Reached t S l p q → Step t p p' → Step t q q' → symbol t p' ≡ c → symbol t q' ≡ c → Reached t S (l ++ (c ∷ [])) p' q'
  walk_last r s u e f = onward r (record { left = s; right = u; same = e ∙ sym f }) e

  -- Two paths over the same symbols are followed together, from a pair that was reached before.
  walk : {p q p' q' a b : Place} {l m : List ℕ} → Reached t S l p q → Step t p p' → Step t q q' → Path t p' m a → Path t q' m b → Reached t S (l ++ m) a b
  walk r s u (here e) (here f) = walk_last r s u e f
  walk r s u (here e) (then f v b) = absurd (no_path b)
  walk r s u (then e w a) (here f) = absurd (no_path a)
  walk {l = l} r s u (then {c = c} {m = m} e w a) (then f v b) = reached_cast (append_assoc l (c ∷ []) m) (walk (walk_last r s u e f) w v a b)

  walk_first : {p q a b : Place} {m : List ℕ} → (symbol t p ≡ symbol t q → FirstPair t S p q) → Path t p m a → Path t q m b → Reached t S m a b
  walk_first f (here e) (here g) = start (f (e ∙ sym g)) e
  walk_first f (here e) (then g u b) = absurd (no_path b)
  walk_first f (then e s a) (here g) = absurd (no_path a)
  walk_first f (then e s a) (then g u b) = walk (start (f (e ∙ sym g)) e) s u a b

  compatible→reached : {m : List ℕ} {p q : Place} → Compatible t S m p q → Reached t S m p q
  compatible→reached h = walk_first (first_of h refl refl) h.left h.right

  -- The compatible pairs are those that 000 builds up from the first pairs.
  pub compatible_reached : {m : List ℕ} {p q : Place} → Compatible t S m p q ↔ Reached t S m p q
  compatible_reached = (compatible→reached, reached→compatible)

  -- The order of a pair's places does not matter.
  pub compatible_swap : {m : List ℕ} {p q : Place} → ((x y : ℕ) → S x y → S y x) → Compatible t S m p q → Compatible t S m q p
  compatible_swap turn h = record {
    x = h.y;
    y = h.x;
    left_known = h.right_known;
    right_known = h.left_known;
    starts = turn h.x h.y h.starts;
    left = h.right;
    right = h.left;
  }

  -- At least one symbol reaches a compatible pair.
  pub compatible_long : {m : List ℕ} {p q : Place} → Compatible t S m p q → 1 ≤ length m
  compatible_long h = path_long h.left

  reached_same : {m : List ℕ} {p q : Place} → Reached t S m p q → symbol t p ≡ symbol t q
  reached_same (start f e) = f.same
  reached_same (onward r s e) = s.same

  -- The places of a compatible pair have read the same symbol last.
  pub compatible_same : {m : List ℕ} {p q : Place} → Compatible t S m p q → symbol t p ≡ symbol t q
  compatible_same h = reached_same (compatible→reached h)

  -- Both places of a compatible pair are places of the table.
  pub compatible_is : Plain t → {m : List ℕ} {p q : Place} → Compatible t S m p q → Is t p × Is t q
  compatible_is plain h = (path_is plain (first_is t plain h.x h.left_known) h.left, path_is plain (first_is t plain h.y h.right_known) h.right)
