-- Walks of pairs by common steps. The pairs that suc k symbols reach are the pairs k common steps from a first pair.
use Rattle.std.specs.Prelude.{◌≡◌, refl, List, [], ◌∷◌, ◌++◌, ◌↔◌, ℕ, zero, suc, ◌+◌, ◌≤◌, length}
use Rattle.std.proofs.Common.{subst, arith, length-append}
use Rattle.code.specs.Definitions.Tables.{Table}
use Rattle.pair_theory.specs.Places.{Place, symbol, Parting, Compatible, FirstPair, CommonStep, Reached, start, onward, PairAfter}
use Rattle.pair_theory.specs.Pairs.{compatible_reached, common_swap}

module _ (t : Table) where
  -- n common steps lead the pair p, q to the pair p', q'.
  pub data Walk : ℕ → Place → Place → Place → Place → Type 0 where
    stay : {p q : Place} → Walk zero p q p q
    step : {n : ℕ} {p q a b p' q' : Place} → CommonStep t p q a b → Walk n a b p' q' → Walk (suc n) p q p' q'

  -- n common steps lead the pair p, q on.
  pub record Further (n : ℕ) (p q : Place) : Type 0 where
    pub p' : Place
    pub q' : Place
    pub walk : Walk n p q p' q'

module _ (t : Table) (S : ℕ → ℕ → Type 0) where
  -- n common steps lead from a first pair to the pair p, q.
  pub record FromFirst (n : ℕ) (p q : Place) : Type 0 where
    pub a : Place
    pub b : Place
    pub first : FirstPair t S a b
    pub walk : Walk t n a b p q

  -- As many common steps lead from a first pair to the pair p, q as there are symbols in m after the first.
  record Traced (m : List ℕ) (p q : Place) : Type 0 where
    n : ℕ
    from : FromFirst n p q
    long : length m ≡ suc n

  -- Some symbols, L of them, reach the pair p, q.
  pub record ReachedBy (L : ℕ) (p q : Place) : Type 0 where
    pub m : List ℕ
    pub reached : Reached t S m p q
    pub long : length m ≡ L

  -- n common steps lead a first pair on.
  pub record FirstFurther (n : ℕ) : Type 0 where
    pub p : Place
    pub q : Place
    pub first : FirstPair t S p q
    pub further : Further t n p q

module _ {t : Table} where
  pub walk_cast : {n k : ℕ} {p q p' q' : Place} → n ≡ k → Walk t n p q p' q' → Walk t k p q p' q'
  walk_cast {p = p} {q = q} {p' = p'} {q' = q'} e w = subst (λ (i : ℕ). Walk t i p q p' q') e w

  -- The order of the places does not matter to a walk.
  pub walk_swap : {n : ℕ} {p q p' q' : Place} → Walk t n p q p' q' → Walk t n q p q' p'
  walk_swap stay = stay
  walk_swap (step s w) = step (common_swap s) (walk_swap w)

  -- One more common step at the end of a walk.
  pub walk_step : {n : ℕ} {p q a b p' q' : Place} → Walk t n p q a b → CommonStep t a b p' q' → Walk t (suc n) p q p' q'
  walk_step stay s = step s stay
  walk_step (step r w) s = step r (walk_step w s)

  -- One walk after another.
  pub walk_append : {n k : ℕ} {p q a b p' q' : Place} → Walk t n p q a b → Walk t k a b p' q' → Walk t (n + k) p q p' q'
  walk_append stay v = walk_cast (omega arith) v
  walk_append (step s w) v = walk_cast (omega arith) (step s (walk_append w v))

  -- One common step before others.
  pub further_step : {n : ℕ} {p q a b : Place} → CommonStep t p q a b → Further t n a b → Further t (suc n) p q
  further_step s f = record { p' = f.p'; q' = f.q'; walk = step s f.walk }

  -- The opening of a walk is a walk.
  pub walk_cut : {n : ℕ} {p q p' q' : Place} → Walk t n p q p' q' → (k : ℕ) → k ≤ n → Further t k p q
  walk_cut {p = p} {q = q} w zero l = record { p' = p; q' = q; walk = stay }
  walk_cut stay (suc k) l = absurd (omega arith)
  walk_cut (step s w) (suc k) l = further_step s (walk_cut w k (omega arith))

module _ {t : Table} {S : ℕ → ℕ → Type 0} where
  trace_first : {p q : Place} (c : ℕ) → FirstPair t S p q → Traced t S (c ∷ []) p q
  trace_first {p} {q} c f = record { n = 0; from = record { a = p; b = q; first = f; walk = stay }; long = refl }

  trace_step : {m : List ℕ} {p q p' q' : Place} (c : ℕ) → Traced t S m p q → CommonStep t p q p' q' → Traced t S (m ++ (c ∷ [])) p' q'
  trace_step {m} c h s = record {
    n = suc h.n;
    from = record { a = h.from.a; b = h.from.b; first = h.from.first; walk = walk_step h.from.walk s };
    long = simp length-append (omega (arith, h.long));
  }

  -- A reached pair is traced back to a first pair, step by step.
  trace : {m : List ℕ} {p q : Place} → Reached t S m p q → Traced t S m p q
  trace (start {c = c} f e) = trace_first c f
  trace (onward {c = c} r s e) = trace_step c (trace r) s

  by_cast : {L K : ℕ} {p q : Place} → L ≡ K → ReachedBy t S L p q → ReachedBy t S K p q
  by_cast {p = p} {q = q} e h = subst (λ (i : ℕ). ReachedBy t S i p q) e h

  by_step : {L : ℕ} {p q p' q' : Place} → ReachedBy t S L p q → CommonStep t p q p' q' → ReachedBy t S (suc L) p' q'
  by_step {p' = p'} h s = record {
    m = h.m ++ (symbol t p' ∷ []);
    reached = onward h.reached s refl;
    long = simp length-append (omega (arith, h.long));
  }

  -- Each step of a walk from a reached pair reads one symbol more.
  walk_reached : {L n : ℕ} {p q p' q' : Place} → ReachedBy t S L p q → Walk t n p q p' q' → ReachedBy t S (L + n) p' q'
  walk_reached h stay = by_cast (omega arith) h
  walk_reached h (step s w) = by_cast (omega arith) (walk_reached (by_step h s) w)

  -- A compatible pair stands as many common steps from a first pair as symbols reach it, less one.
  pub compatible_from : {n : ℕ} {m : List ℕ} {p q : Place} → Compatible t S m p q → length m ≡ suc n → FromFirst t S n p q
  compatible_from {n} {p = p} {q = q} h l = let a = trace (compatible_reached.0 h) in subst (λ (i : ℕ). FromFirst t S i p q) (omega (arith, a.long)) a.from

  -- A pair n common steps from a first pair is reached by suc n symbols.
  pub from_reached : {n : ℕ} {p q : Place} → FromFirst t S n p q → ReachedBy t S (suc n) p q
  from_reached h =
      let b : ReachedBy t S 1 h.a h.b = record { m = symbol t h.a ∷ []; reached = start h.first refl; long = refl } in
      by_cast (omega arith) (walk_reached b h.walk)

module _ {t : Table} where
  pair→first : {n : ℕ} → PairAfter t (suc n) → FirstFurther t (Parting t) n
  pair→first h =
      let a = compatible_from h.pair h.long in
      record { p = a.a; q = a.b; first = a.first; further = record { p' = h.p; q' = h.q; walk = a.walk } }

  first→pair : {n : ℕ} → FirstFurther t (Parting t) n → PairAfter t (suc n)
  first→pair h =
      let r = from_reached (record { a = h.p; b = h.q; first = h.first; walk = h.further.walk }) in
      record { m = r.m; p = h.further.p'; q = h.further.q'; pair = compatible_reached.1 r.reached; long = r.long }

  -- suc n symbols reach a compatible pair exactly if n common steps lead a first pair on.
  pub pair_iff : {n : ℕ} → PairAfter t (suc n) ↔ FirstFurther t (Parting t) n
  pair_iff = (pair→first, first→pair)
