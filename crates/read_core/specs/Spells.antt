-- Where the lists are the sets of a table's words, what reads the places from the first on, after the start, are the permitted sequences whose symbols may lie at
-- the places, as far as there are places. The sequences from any place are compared: in a permitted order, after the word before, and with the rest of the places.
use Rattle.std.specs.Prelude.{◌≡◌, refl, Bool, true, false, ℕ, ◌+◌, ◌-◌, ◌≤◌, ◌<◌, length, take, get_or}
use Rattle.std.proofs.Common.{sym, ap, ◌∙◌, subst, arith, eq-eqb, eqb-true, length-append, ext_get_or, get_or-take, length-take-le, get_or-append-add}
use mathlib.Core.List.{List, [], ◌∷◌, ◌++◌, head-eq_of_cons-eq, tail-eq_of_cons-eq}
use Rattle.std.proofs.Math.Decide.{dec_lt}
use Rattle.std.proofs.Math.ListN.{get_or-append}
use Rattle.code.specs.Definitions.Tables.{Table, word, Linked, none, one, more, Permitted, empty, message}
use Rattle.code.specs.Laws.Sequences.{first_word, second_follows, rest_linked, permitted_linked, first_begins, free_permitted}
use Rattle.read_sets.specs.Sets.{length_at, may_after, Lays}
use Rattle.read_marks.specs.Text.{From, done, word as first}
use Rattle.read_marks.specs.Message.{Places, symbols_at, Fits, Stands, text}

-- The symbols of s may lie at the places from p on, to the last place; every word begins before the end, and if none may be cut there are as many symbols as places.
pub record Spells (t : Table) (M : Places) (p : ℕ) (s : List ℕ) : Type 0 where
  pub reaches : M.end ≤ p + length (message t s)
  pub exact : M.cut ≡ false → p + length (message t s) ≡ M.end
  pub symbols : (j : ℕ) → j < length (message t s) → p + j < M.end → M.lies (p + j) (get_or (message t s) j 0)
  pub begins : (o : List ℕ) (x : ℕ) (u : List ℕ) → s ≡ o ++ (x ∷ u) → p + length (message t o) < M.end

module _ {t : Table} {having ends rows lengths : List ℕ} {n longest : ℕ} (l : Lays t having ends rows lengths n longest) (M : Places) where
  -- A word stands where its symbols may lie.
  fits_lies : (p x j : ℕ) → x < n → j < length_at lengths x → Fits having M p j x → M.lies p (get_or (word t x) j 0)
  fits_lies p x j h k f = subst (M.lies p) (eqb-true f.symbol (get_or (word t x) j 0) (sym (l.spells x j f.symbol h k) ∙ f.here)) f.lies

  lies_fits : (p x j : ℕ) → x < n → j < length_at lengths x → p < M.end → M.lies p (get_or (word t x) j 0) → Fits having M p j x
  lies_fits p x j h k i a = record {
    inside = i;
    symbol = get_or (word t x) j 0;
    lies = a;
    here = l.spells x j (get_or (word t x) j 0) h k ∙ eq-eqb (get_or (word t x) j 0) (get_or (word t x) j 0) refl;
  }

  -- The first word of s, if there is one, may come after y.
  abbrev After : ℕ → List ℕ → Type 0
  After y [] = Unit
  After y (x ∷ s) = may_after rows x y ≡ true

  -- The words of s may stand in this order and come after y, and are spelled from place p on.
  record Rest (p y : ℕ) (s : List ℕ) : Type 0 where
    linked : Linked t s
    after : After y s
    spells : Spells t M p s

  head_known : {x : ℕ} {s : List ℕ} → Linked t (x ∷ s) → x < n
  head_known r = rw (← l.count) (first_word r)

  after_start : (s : List ℕ) → Permitted t s → After n s
  after_start [] r = tt
  after_start (x ∷ s) r = l.starts x (head_known (permitted_linked r)) ∙ first_begins r

  -- What may come after the start may begin.
  start_permitted : (s : List ℕ) → Linked t s → After n s → Permitted t s
  start_permitted [] r a = empty
  start_permitted (x ∷ s) r a = free_permitted l.free (sym (l.starts x (head_known r)) ∙ a) r

  after_word : {x : ℕ} (s : List ℕ) → Linked t (x ∷ s) → After x s
  after_word [] r = tt
  after_word {x} (z ∷ s) r = l.entries z x (head_known (rest_linked r)) (head_known r) ∙ second_follows r

  cons : {x : ℕ} (s : List ℕ) → x < n → Linked t s → After x s → Linked t (x ∷ s)
  cons {x} [] h r a = one {x = x} (rw l.count h)
  cons {x} (z ∷ s) h r a = more {y = x} (rw l.count h) (rw (l.entries z x (head_known r) h) at a) r

  -- A word in front.
  module _ (p x : ℕ) (s : List ℕ) (known : x < n) where
    long : length (message t (x ∷ s)) ≡ length_at lengths x + length (message t s)
    long = length-append (word t x) (message t s) ∙ ap (λ (k : ℕ). k + length (message t s)) (l.sizes x known)

    module _ (h : Stands having M lengths p x) (r : Spells t M (p + length_at lengths x) s) where
      symbol_more : (j : ℕ) → j < length (message t (x ∷ s)) → p + j < M.end → Dec (j < length (word t x)) → M.lies (p + j) (get_or (word t x ++ message t s) j 0)
      symbol_more j k i (yes d) =
          subst (M.lies (p + j)) (sym (get_or-append (word t x) (message t s) 0 j d))
          (fits_lies (p + j) x j known (omega (arith, l.sizes x known)) (h.each j (omega (arith, l.sizes x known)) i))
      symbol_more j k i (no d) =
          let q = j - length (word t x) in
          let e : length (word t x) + q ≡ j = omega arith in
          let a : p + length_at lengths x + q ≡ p + j = omega (arith, l.sizes x known) in
          subst (λ (v : ℕ). M.lies (p + j) (get_or (word t x ++ message t s) v 0)) e
          (subst (M.lies (p + j)) (sym (get_or-append-add (word t x) (message t s) q 0))
          (subst (λ (v : ℕ). M.lies v (get_or (message t s) q 0)) a (r.symbols q (omega (arith, long, l.sizes x known)) (omega arith))))

      begins_more : (o : List ℕ) (y : ℕ) (u : List ℕ) → x ∷ s ≡ o ++ (y ∷ u) → p + length (message t o) < M.end
      begins_more [] y u e = omega (arith, h.inside)
      begins_more (a ∷ o) y u e =
          let b = r.begins o y u (tail-eq_of_cons-eq e) in
          subst (λ (v : ℕ). p + length (word t v ++ message t o) < M.end) (head-eq_of_cons-eq e)
          (omega (arith, length-append (word t x) (message t o), l.sizes x known))

      spells_more : Spells t M p (x ∷ s)
      spells_more = record {
        reaches = omega (arith, r.reaches, long);
        exact = λ e. omega (arith, r.exact e, long);
        symbols = λ j k i. symbol_more j k i (dec_lt j (length (word t x)));
        begins = begins_more;
      }

    module _ (r : Spells t M p (x ∷ s)) where
      stands_first : Stands having M lengths p x
      stands_first = record {
        inside = let b = r.begins [] x s refl in omega arith;
        each = λ j k i.
            lies_fits (p + j) x j known k i
            (subst (M.lies (p + j)) (get_or-append (word t x) (message t s) 0 j (omega (arith, l.sizes x known))) (r.symbols j (omega (arith, long)) i));
        exact = λ e. omega (arith, r.exact e, long);
      }

      symbol_rest : (j : ℕ) → j < length (message t s) → p + length_at lengths x + j < M.end → M.lies (p + length_at lengths x + j) (get_or (message t s) j 0)
      symbol_rest j k i =
          let a : p + (length (word t x) + j) ≡ p + length_at lengths x + j = omega (arith, l.sizes x known) in
          subst (λ (v : ℕ). M.lies v (get_or (message t s) j 0)) a
          (subst (M.lies (p + (length (word t x) + j))) (get_or-append-add (word t x) (message t s) j 0)
          (r.symbols (length (word t x) + j) (omega (arith, long, l.sizes x known)) (omega (arith, l.sizes x known))))

      spells_rest : Spells t M (p + length_at lengths x) s
      spells_rest = record {
        reaches = omega (arith, r.reaches, long);
        exact = λ e. omega (arith, r.exact e, long);
        symbols = symbol_rest;
        begins = λ o y u e. omega (arith, r.begins (x ∷ o) y u (ap (◌∷◌ x) e), length-append (word t x) (message t o), l.sizes x known);
      }

  spells_none : (p : ℕ) → M.end ≤ p → (M.cut ≡ false → p ≤ M.end) → Spells t M p []
  spells_none p h k = record {
    reaches = omega arith;
    exact = λ e. let q = k e in omega arith;
    symbols = λ j i. absurd (omega arith);
    begins = λ o x u e. absurd (let z = ap length e in omega (arith, length-append o (x ∷ u)));
  }

  rest_of : {p y : ℕ} {s : List ℕ} → (M.cut ≡ false → p ≤ M.end) → From (text having rows lengths n M) p y s → Rest p y s
  rest_of {p} k (done e) = record { linked = none; after = tt; spells = spells_none p e k }
  rest_of {p} k (first {x = x} {s = s} h a f) =
      let r = rest_of h.1.exact f in
      record { linked = cons s h.0 r.linked r.after; after = a; spells = spells_more p x s h.0 h.1 r.spells }

  from_rest : (s : List ℕ) (p y : ℕ) → Rest p y s → From (text having rows lengths n M) p y s
  from_rest [] p y r = done {p = p} (let q = r.spells.reaches in omega arith)
  from_rest (x ∷ s) p y r =
      let known = head_known r.linked in
      first (known, stands_first p x s known r.spells) r.after
      (from_rest s (p + length_at lengths x) x
      (record { linked = rest_linked r.linked; after = after_word s r.linked; spells = spells_rest p x s known r.spells }))

  -- What reads the places from the first on, after the start.
  pub from_spells : (s : List ℕ) → From (text having rows lengths n M) 0 n s → Permitted t s × Spells t M 0 s
  from_spells s f = let r = rest_of (λ e. omega arith) f in (start_permitted s r.linked r.after, r.spells)

  pub spells_from : (s : List ℕ) → Permitted t s → Spells t M 0 s → From (text having rows lengths n M) 0 n s
  spells_from s q r = from_rest s 0 n (record { linked = permitted_linked q; after = after_start s q; spells = r })

-- Where the places are symbols, they are the first of the sequence's.
pub spelled : {t : Table} {cut : Bool} {m s : List ℕ} → Spells t (symbols_at cut m) 0 s → take (length m) (message t s) ≡ m
spelled {t} {m = m} {s = s} r =
    let a : length (take (length m) (message t s)) ≡ length m = length-take-le (length m) (message t s) (omega (arith, r.reaches)) in
    ext_get_or 0 (take (length m) (message t s)) m a λ i h.
    let z : 0 + i ≡ i = omega arith in
    get_or-take (length m) (message t s) i 0 (omega arith) ∙ rw z at (r.symbols i (omega (arith, r.reaches)) (omega arith))
