-- The tails at the end of what is read: none, or, where the last word may be only begun, after j symbols the words of more than j. They are the unions of the sets
-- of lengths, from the greatest on.
use Rattle.std.specs.Prelude.{◌≡◌, refl, Bool, true, false, ◌⊎◌, List, ℕ, ◌-◌, ◌≤◌, ◌<◌, length, get_or, set, replicate}
use Rattle.std.proofs.Common.{◌∙◌, inl, inr, arith, get_or-set_other}
use Rattle.std.proofs.lemmas.Bool.{false≢true}
use Rattle.std.proofs.Math.Decide.{dec_lt, ℕ_discrete}
use Rattle.std.specs.Int.Bits.{bit_or}
use Rattle.code.specs.Laws.Cells.{on_set, zeros}
use Rattle.code.specs.Laws.Exactly.{Exactly, exactly_false, exactly_iff, exactly_itself}
use Rattle.bits.specs.Bits.{bit_of, bit_none}
use Rattle.bits.specs.Sets.{exactly_join}

-- Word x is in one of the sets from j on, up to `longest`.
pub record EndsFrom (ends : List ℕ) (longest j x : ℕ) : Type 0 where
  pub index : ℕ
  pub low : j ≤ index
  pub high : index < longest
  pub here : bit_of (get_or ends index 0) x ≡ true

-- The tails that reading sets out with, from the end.
pub record FirstTails (ends : List ℕ) (longest : ℕ) (cut : Bool) (tails : List ℕ) : Type 0 where
  pub is : (j x : ℕ) → Exactly (bit_of (get_or tails j 0) x) ((cut ≡ true) × (1 ≤ j) × EndsFrom ends longest j x)
  pub rest : (j : ℕ) → longest ≤ j → get_or tails j 0 ≡ 0
  pub none : get_or tails 0 0 ≡ 0

-- From index j on they are laid; `longer` is the set of index j.
pub record TailsFrom (ends : List ℕ) (longest : ℕ) (tails : List ℕ) (j longer : ℕ) : Type 0 where
  pub held : (x : ℕ) → Exactly (bit_of longer x) (EndsFrom ends longest j x)
  pub is : (i x : ℕ) → j ≤ i → Exactly (bit_of (get_or tails i 0) x) (EndsFrom ends longest i x)
  pub below : (i : ℕ) → i < j → get_or tails i 0 ≡ 0
  pub rest : (i : ℕ) → longest ≤ i → get_or tails i 0 ≡ 0

pub tails_none : (ends : List ℕ) (longest k : ℕ) → TailsFrom ends longest (replicate k 0) longest 0
tails_none ends longest k = record {
  held = λ x. rw (bit_none x) (exactly_false (λ e. omega (arith, e.low, e.high)));
  is = λ i x h. rw (zeros k i, bit_none x) (exactly_false (λ e. omega (arith, e.low, e.high)));
  below = λ i h. zeros k i;
  rest = λ i h. zeros k i;
}

-- One length less.
pub tails_more : {ends tails : List ℕ} {longest j longer : ℕ} → TailsFrom ends longest tails j longer → 0 < j → j ≤ longest → longest < length tails
    → TailsFrom ends longest (set tails (j - 1) (bit_or longer (get_or ends (j - 1) 0))) (j - 1) (bit_or longer (get_or ends (j - 1) 0))
tails_more {ends} {tails} {longest} {j} {longer} t some within room = record {
  held = held;
  is = λ i x. on_set tails (j - 1) value (omega arith) (λ i v. j - 1 ≤ i → Exactly (bit_of v x) (EndsFrom ends longest i x))
      (λ h. held x) (λ i ne h. t.is i x (omega arith)) i;
  below = λ i h. get_or-set_other tails (j - 1) i value 0 (λ e. omega arith) ∙ t.below i (omega arith);
  rest = λ i h. get_or-set_other tails (j - 1) i value 0 (λ e. omega arith) ∙ t.rest i h;
}
  where
    value : ℕ
    value = bit_or longer (get_or ends (j - 1) 0)

    up : (x : ℕ) → EndsFrom ends longest j x ⊎ (bit_of (get_or ends (j - 1) 0) x ≡ true) → EndsFrom ends longest (j - 1) x
    up x (inl e) = record { index = e.index; low = omega (arith, e.low); high = e.high; here = e.here }
    up x (inr h) = record { index = j - 1; low = omega arith; high = omega arith; here = h }

    down : (x : ℕ) → EndsFrom ends longest (j - 1) x → EndsFrom ends longest j x ⊎ (bit_of (get_or ends (j - 1) 0) x ≡ true)
    down x e = by (ℕ_discrete e.index (j - 1))
      where
        by : Dec (e.index ≡ j - 1) → EndsFrom ends longest j x ⊎ (bit_of (get_or ends (j - 1) 0) x ≡ true)
        by (yes q) = inr (rw q at e.here)
        by (no q) = inl (record { index = e.index; low = omega (arith, e.low); high = e.high; here = e.here })

    held : (x : ℕ) → Exactly (bit_of value x) (EndsFrom ends longest (j - 1) x)
    held x = exactly_iff (up x, down x) (exactly_join longer (get_or ends (j - 1) 0) x (t.held x) (exactly_itself (bit_of (get_or ends (j - 1) 0) x)))

-- None, and all of them.
pub first_none : (ends : List ℕ) (longest k : ℕ) → FirstTails ends longest false (replicate k 0)
first_none ends longest k = record {
  is = λ j x. rw (zeros k j, bit_none x) (exactly_false (λ p. false≢true p.0));
  rest = λ j h. zeros k j;
  none = zeros k 0;
}

pub first_all : {ends tails : List ℕ} {longest longer : ℕ} → TailsFrom ends longest tails 1 longer → FirstTails ends longest true tails
first_all {ends} {tails} {longest} t = record { is = λ j x. by j x (dec_lt j 1); rest = t.rest; none = t.below 0 (omega arith) }
  where
    by : (j x : ℕ) → Dec (j < 1) → Exactly (bit_of (get_or tails j 0) x) ((true ≡ true) × (1 ≤ j) × EndsFrom ends longest j x)
    by j x (yes h) = rw (t.below j h, bit_none x) (exactly_false (λ p. omega (arith, p.1)))
    by j x (no h) = exactly_iff ((λ e. (refl, omega arith, e)), (λ p. p.2)) (t.is j x (omega arith))
