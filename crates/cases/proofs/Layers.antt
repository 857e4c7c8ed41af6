-- The members of a layer are exactly the pairs that its number of symbols reaches, each with these symbols.
use Rattle.std.specs.Prelude.{◌≡◌, refl, Bool}
use Rattle.std.proofs.Common.{sym, ◌∙◌, arith}
use Rattle.std.proofs.Math.Path.{ap, subst}
use Rattle.std.proofs.Math.Bool.{true}
use mathlib.Core.List.Memᴰ
use mathlib.Core.List.{List, [], ◌∷◌, ◌++◌, Memᴰ}
use Prim.Native.Nat.{ℕ, zero, suc, ◌-◌, ◌≤◌}
use Rattle.std.proofs.Math.ListN.{length, length-append}
use borrow.Author.Tests.{eqb-true, eq-eqb}
use Rattle.code.specs.Definitions.Tables.{Table}
use Rattle.pair_theory.specs.Places.{Place, first_place, symbol, Step, Compatible, FirstPair, CommonStep, Reached, start, onward}
use Rattle.pair_theory.specs.Pairs.{compatible_reached, compatible_long}
use Rattle.pair_theory.specs.Bounded.{every_below_lem}
use Rattle.cases.specs.Members.{keep, keep_in, keep_out, flat_map_in, flat_map_out, every_member}
use Rattle.cases.specs.Starts.{WordPair, word_pair, Starting, Lists}
use Rattle.cases.specs.Steps.{steps}
use Rattle.cases.proofs.Steps.{step_in, step_out}
use Rattle.cases.specs.Layers.{LabelledPair, labelled, same_symbol, start_alike, first_pair, next_pairs_to, next_pairs, layer, every_in_layer, every_pair}

module _ (t : Table) where
  next_in_lem : (m : List ℕ) {p q p' q' : Place} {c : ℕ} → CommonStep t p q p' q' → symbol t p' ≡ c
      → Memᴰ (labelled (m ++ (c ∷ [])) p' q') (next_pairs t (labelled m p q))
  unfolding next_pairs next_pairs_to
  next_in_lem m {p} {q} {p'} {q'} {c} s e =
      let same : labelled (m ++ (c ∷ [])) p' q' ≡ labelled (m ++ (symbol t p' ∷ [])) p' q' = rw (← e) in
      flat_map_in (next_pairs_to t (labelled m p q)) (step_in t s.left)
      (Memᴰ.cast same (Memᴰ.map (labelled (m ++ (symbol t p' ∷ [])) p') (keep_in (same_symbol t p') (step_in t s.right) (eq-eqb _ _ s.same))))

module _ (t : Table) (starts : List WordPair) where
  -- The pair p, q stands, with the symbols m, in the layer of their number.
  record Found (m : List ℕ) (p q : Place) : Type 0 where
    k : ℕ
    long : length m ≡ suc k
    member : Memᴰ (labelled m p q) (layer t starts k)

-- The symbols of e are suc k, and reach its pair from words of S.
record At (t : Table) (S : ℕ → ℕ → Type 0) (k : ℕ) (e : LabelledPair) : Type 0 where
  reached : Reached t S e.label e.p e.q
  long : length e.label ≡ suc k

module _ (t : Table) {S : ℕ → ℕ → Type 0} where
  first_at_lem : {w : WordPair} → Starting t S w → symbol t (first_place w.x) ≡ symbol t (first_place w.y) → At t S 0 (first_pair t w)
  first_at_lem {w} h e =
      let first : FirstPair t S (first_place w.x) (first_place w.y) = record {
        x = w.x;
        y = w.y;
        left_known = h.left_known;
        right_known = h.right_known;
        starts = h.starts;
        left = refl;
        right = refl;
        same = e;
      } in
      record { reached = start first refl; long = refl }

  next_at : {k : ℕ} {e : LabelledPair} {a b : Place} → At t S k e → Step t e.p a → Step t e.q b → symbol t a ≡ symbol t b
      → At t S (suc k) (labelled (e.label ++ (symbol t a ∷ [])) a b)
  next_at i l r s = record { reached = onward i.reached (record { left = l; right = r; same = s }) refl; long = simp length-append (omega (arith, i.long)) }

  next_out : {k : ℕ} {e f : LabelledPair} {a : Place} → At t S k e → Step t e.p a → Memᴰ f (next_pairs_to t e a) → At t S (suc k) f
  unfolding next_pairs_to
  next_out {k} {e} {a = a} i s m =
      let b = Memᴰ.of_map (labelled (e.label ++ (symbol t a ∷ [])) a) (keep (same_symbol t a) (steps t e.q)) m in
      let o = keep_out (same_symbol t a) (steps t e.q) b.1 in
      subst (At t S (suc k)) b.2 (next_at i s (step_out t o.0) (eqb-true _ _ o.1))

  module _ {l : List WordPair} (lists : Lists t S l) where
    first_out : {e : LabelledPair} → Memᴰ e (layer t l 0) → At t S 0 e
    unfolding layer
    first_out m =
        let a = Memᴰ.of_map (first_pair t) (keep (start_alike t) l) m in
        let o = keep_out (start_alike t) l a.1 in
        subst (At t S 0) a.2 (first_at_lem (lists.sound a.0 o.0) (eqb-true _ _ o.1))

    member_at : {e : LabelledPair} (k : ℕ) → Memᴰ e (layer t l k) → At t S k e
    unfolding layer next_pairs
    member_at zero m = first_out m
    member_at {e = e} (suc k) m =
        let s = flat_map_out (next_pairs t) (layer t l k) m in
        let r = flat_map_out (next_pairs_to t s.a) (steps t s.a.p) s.gives in
        next_out (member_at {e = s.a} k s.member) (step_out t r.member) r.gives

    -- A member of layer k is a compatible pair, which its suc k symbols reach.
    pub layer_out : {e : LabelledPair} (k : ℕ) → Memᴰ e (layer t l k) → Compatible t S e.label e.p e.q × (length e.label ≡ suc k)
    layer_out k m = let i = member_at k m in (compatible_reached.1 i.reached, i.long)

    first_in : {p q : Place} {c : ℕ} → FirstPair t S p q → symbol t p ≡ c → Memᴰ (labelled (c ∷ []) p q) (layer t l 0)
    unfolding layer
    first_in {p} {q} {c} f e =
        let w = word_pair f.x f.y in
        let same : labelled (c ∷ []) p q ≡ first_pair t w = rw (← e, f.left, f.right) in
        let alike : start_alike t w ≡ true = eq-eqb _ _ (ap (symbol t) (sym f.left) ∙ f.same ∙ ap (symbol t) f.right) in
        let member = lists.complete w (record { left_known = f.left_known; right_known = f.right_known; starts = f.starts }) in
        Memᴰ.cast same (Memᴰ.map (first_pair t) (keep_in (start_alike t) member alike))

    found_step : {m : List ℕ} {p q p' q' : Place} {c : ℕ} → Found t l m p q → CommonStep t p q p' q' → symbol t p' ≡ c → Found t l (m ++ (c ∷ [])) p' q'
    unfolding layer
    found_step {m} f s e = record { k = suc f.k; long = simp length-append (omega (arith, f.long)); member = flat_map_in (next_pairs t) f.member (next_in_lem t m s e) }

    found : {m : List ℕ} {p q : Place} → Reached t S m p q → Found t l m p q
    found (start f e) = record { k = 0; long = refl; member = first_in f e }
    found (onward r s e) = found_step (found r) s e

    -- A compatible pair that suc k symbols reach is a member of layer k.
    pub layer_in : {m : List ℕ} {p q : Place} {k : ℕ} → Compatible t S m p q → length m ≡ suc k → Memᴰ (labelled m p q) (layer t l k)
    layer_in {m} {p} {q} h e =
        let f = found (compatible_reached.0 h) in
        subst (λ (i : ℕ). Memᴰ (labelled m p q) (layer t l i)) (omega (arith, f.long)) f.member

    -- What every pair of the layers below n passes, a compatible pair passes that at most n symbols reach.
    pub pair_passes : (f : LabelledPair → Bool) (n : ℕ) → every_pair t l f n ≡ true → {m : List ℕ} {p q : Place} → Compatible t S m p q → length m ≤ n
        → f (labelled m p q) ≡ true
    unfolding every_pair
    pair_passes f n e {m} h s =
        let k = length m - 1 in
        let long = compatible_long h in
        every_member f (every_below_lem (every_in_layer t l f) n e k (omega arith)) (layer_in {k = k} h (omega arith))
