-- The places to which steps lead from a place are exactly the members of its list.
use Rattle.std.specs.Prelude.{◌≡◌, true, ◌⊎◌, ℕ, suc, ◌<◌, length}
use Rattle.std.proofs.Common.{sym, inl, inr, ltb-true, eqb-true, lt-ltb, eq-eqb}
use Rattle.std.proofs.Math.Bool.{and-eq-true_iff}
use mathlib.Core.List.Memᴰ
use mathlib.Core.List.{[], ◌∷◌, Memᴰ}
use Rattle.code.specs.Definitions.Tables.{Table, size, word}
use Rattle.pair_theory.specs.Places.{Place, first_place, next_place, Ends, Step, inside, across}
use Rattle.pair_theory.specs.Bounded.{is_end}
use Rattle.cases.specs.Members.{keep, keep_in, keep_out, numbers, numbers_in, numbers_out}
use Rattle.cases.specs.Steps.{is_inside, goes_on, steps_inside, steps_across, steps}

module _ (t : Table) where
  inside_out : (p : Place) {q : Place} → Memᴰ q (steps_inside t p) → Step t p q
  inside_out p m = let o = keep_out (λ q. is_inside t p) (next_place p ∷ []) m in inside (ltb-true _ _ o.1) (Memᴰ.eq_of_singleton o.0)

  goes_on_lem : (p : Place) (x : ℕ) → goes_on t p x ≡ true → Ends t p × (t.follow x p.w ≡ true)
  goes_on_lem p x e = let b = (and-eq-true_iff (is_end t p) (t.follow x p.w)).0 e in (eqb-true _ _ b.0, b.1)

  across_out : (p : Place) {q : Place} → Memᴰ q (steps_across t p) → Step t p q
  across_out p m =
      let a = Memᴰ.of_map first_place (keep (goes_on t p) (numbers (size t))) m in
      let o = keep_out (goes_on t p) (numbers (size t)) a.1 in
      let b = goes_on_lem p a.0 o.1 in
      across b.0 (numbers_out (size t) o.0) b.1 (sym a.2)

  -- Each place in the list is one to which a step leads.
  pub step_out : {p q : Place} → Memᴰ q (steps t p) → Step t p q
  unfolding steps
  step_out {p} {q} m = by (Memᴰ.append_cases (steps_inside t p) m)
    where
      by : Memᴰ q (steps_inside t p) ⊎ Memᴰ q (steps_across t p) → Step t p q
      by (inl n) = inside_out p n
      by (inr n) = across_out p n

  inside_in : (p : Place) {q : Place} → suc p.k < length (word t p.w) → q ≡ next_place p → Memᴰ q (steps_inside t p)
  inside_in p h e = keep_in (λ q. is_inside t p) {l = next_place p ∷ []} (Memᴰ.head e) (lt-ltb _ _ h)

  across_in : (p : Place) {q : Place} {x : ℕ} → Ends t p → x < size t → t.follow x p.w ≡ true → q ≡ first_place x → Memᴰ q (steps_across t p)
  across_in p {x = x} d h f e =
      let on = (and-eq-true_iff (is_end t p) (t.follow x p.w)).1 (eq-eqb _ _ d, f) in
      Memᴰ.cast e (Memᴰ.map first_place (keep_in (goes_on t p) (numbers_in (size t) h) on))

  -- Each place to which a step leads is in the list.
  pub step_in : {p q : Place} → Step t p q → Memᴰ q (steps t p)
  unfolding steps
  step_in {p} (inside h e) = Memᴰ.append_left (steps_across t p) (inside_in p h e)
  step_in {p} (across d h f e) = Memᴰ.append_right (steps_inside t p) (across_in p d h f e)
