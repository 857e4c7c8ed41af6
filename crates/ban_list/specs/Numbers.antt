-- Reading a number digit by digit: as soon as it is too large or a byte is no decimal digit the field is no number, so no digit behind that is read.
use Rattle.std.specs.Prelude.{◌≡◌, Bool, ◌&&◌, List, [], ◌∷◌, ℕ, ◌+◌, ◌-◌, ◌*◌, ◌≤◌, ◌<◌, ltb, take, drop, get_or, Option, Some, None, if◌then◌else◌}
use Rattle.std.proofs.Math.Path.{refl}
use Rattle.std.proofs.Common.{sym, ◌∙◌, add-one, drop-cons, drop_of_length-le}
use Rattle.std.proofs.Math.Bool.{true, false, not, and-false, or-true, and-eq-true_iff}
use Rattle.std.proofs.lemmas.Bool.{false≢true}
use Rattle.std.proofs.Math.Decide.{dec_lt}
use native.Mathlib.Omega.{arith}
use Rattle.std.proofs.Math.Dec.{eqb}
use Rattle.std.proofs.Math.ListN.{length}
use borrow.Author.Tests.{ltb-true, lt-ltb, le-ltb, le-leb, eqb-false, ne_eqb, eq-eqb}
use Rattle.code.specs.Definitions.Lists.{every}
use Rattle.code.specs.Definitions.Sheets.{is_digit}
use Rattle.csv_records.specs.Fields.{leading}
use Rattle.code.specs.Definitions.BanLists.{is_decimal, decimal, number_of, no_leading_zero, is_number}

-- the number below n that digits stand for behind those that stand for v, if there is one
unfoldable pub value_in : ℕ → ℕ → List ℕ → Option ℕ
value_in n v f = if every is_decimal f && ltb (decimal v f) n then Some (decimal v f) else None

-- the number below n of a field, if it is such a number
unfoldable pub number_in : ℕ → List ℕ → Option ℕ
number_in n f = if is_number n f then Some (number_of f) else None

decimal_grows : (v : ℕ) (f : List ℕ) → v ≤ decimal v f
unfolding decimal
decimal_grows v [] = omega arith
decimal_grows v (a ∷ f) = omega (arith, decimal_grows (v * 10 + (a - 48)) f)

-- more digits make no number of one that is too large
large : (n v : ℕ) (f : List ℕ) → n ≤ v → value_in n v f ≡ None
unfolding value_in
large n v f h = rw (le-ltb (decimal v f) n (omega (arith, decimal_grows v f)), and-false)

more : (n v a : ℕ) (f : List ℕ) → 48 ≤ a → a ≤ 57 → value_in n v (a ∷ f) ≡ value_in n (v * 10 + (a - 48)) f
unfolding value_in every decimal
more n v a f h k = rw (le-leb 48 a h, le-leb a 57 k)

letter : (n v a : ℕ) (f : List ℕ) → is_decimal a ≡ false → value_in n v (a ∷ f) ≡ None
unfolding value_in every
letter n v a f h = rw h

done : (n v : ℕ) → v < n → Some v ≡ value_in n v []
unfolding value_in every decimal
done n v h = rw (lt-ltb v n h)

-- The bytes of f before i are digits, and stand for v.
pub record Summed (n : ℕ) (f : List ℕ) (v i : ℕ) : Type 0 where
  pub small : v ≤ n
  pub low : 0 < i → v < n
  pub same : value_in n v (drop i f) ≡ value_in n 0 f

module _ {n : ℕ} {f : List ℕ} {v i : ℕ} (p : Summed n f v i) where
  -- One byte, in each of its ways.
  module _ (h : i < length f) where
    here : drop i f ≡ get_or f i 0 ∷ drop (i + 1) f
    here = rw (add-one, drop-cons f i 0 h)

    pub sum_letter : is_decimal (get_or f i 0) ≡ false → None ≡ value_in n 0 f
    sum_letter k = sym (letter n v (get_or f i 0) (drop (i + 1) f) k) ∙ (rw here at p.same)

    module _ (k : 48 ≤ get_or f i 0) (l : get_or f i 0 ≤ 57) where
      sum_more : value_in n (v * 10 + (get_or f i 0 - 48)) (drop (i + 1) f) ≡ value_in n 0 f
      sum_more = sym (more n v (get_or f i 0) (drop (i + 1) f) k l) ∙ (rw here at p.same)

      pub sum_large : n ≤ v * 10 + (get_or f i 0 - 48) → None ≡ value_in n 0 f
      sum_large m = sym (large n (v * 10 + (get_or f i 0 - 48)) (drop (i + 1) f) m) ∙ sum_more

      pub sum_on : v * 10 + (get_or f i 0 - 48) < n → Summed n f (v * 10 + (get_or f i 0 - 48)) (i + 1)
      sum_on m = record { small = omega arith; low = λ j. m; same = sum_more }

  -- behind the last digit
  pub sum_ends : 1 ≤ length f → length f ≤ i → Some v ≡ value_in n 0 f
  sum_ends some h = done n v (p.low (omega arith)) ∙ (rw (drop_of_length-le f {i = i} h) at p.same)

-- the bytes that a field is cut out of
pub leading_take : (t : List ℕ) → take (length (leading t)) t ≡ leading t
unfolding leading
leading_take [] = refl
leading_take (a ∷ t) = go (is_digit a) (leading_take t)
  where
    go : (d : Bool) → take (length (leading t)) t ≡ leading t → take (length (if d then a ∷ leading t else [])) (a ∷ t) ≡ (if d then a ∷ leading t else [])
    go true e = rw e
    go false e = refl

-- A field by its length and its first byte: only where these allow it do its digits count.
module _ (n : ℕ) where
  pub number_none : (f : List ℕ) → length f ≡ 0 → None ≡ number_in n f
  unfolding number_in is_number
  number_none f h = rw h

  pub number_padded : (f : List ℕ) → 1 < length f → get_or f 0 0 ≡ 48 → None ≡ number_in n f
  unfolding number_in is_number
  number_padded f h k = rw (ne_eqb (length f) 1 (λ e. omega arith), k, and-false)

  pub number_value : (f : List ℕ) → (length f ≡ 0 → ⊥) → (1 < length f → get_or f 0 0 ≡ 48 → ⊥) → value_in n 0 f ≡ number_in n f
  unfolding number_in is_number value_in number_of
  number_value f some h = rw (ne_eqb (length f) 0 some, no_zero (dec_lt 1 (length f)))
    where
      no_zero : Dec (1 < length f) → no_leading_zero f ≡ true
      no_zero (yes k) = rw (ne_eqb (get_or f 0 0) 48 (h k), or-true)
      no_zero (no k) = rw (eq-eqb (length f) 1 (omega arith))

-- What the number that was read tells of the field.
module _ (n : ℕ) (f : List ℕ) where
  pub number_read : {v : ℕ} → number_in n f ≡ Some v → (is_number n f ≡ true) × (number_of f ≡ v)
  unfolding number_in
  number_read {v} e = go (is_number n f) refl e
    where
      go : (t : Bool) → is_number n f ≡ t → (if t then Some (number_of f) else None) ≡ Some v → (is_number n f ≡ true) × (number_of f ≡ v)
      go true q i = (q, cc)
      go false q i = absurd (cc)

  pub number_wrong : number_in n f ≡ None → is_number n f ≡ false
  unfolding number_in
  number_wrong e = go (is_number n f) refl e
    where
      go : (t : Bool) → is_number n f ≡ t → (if t then Some (number_of f) else None) ≡ None → is_number n f ≡ false
      go true q i = absurd (cc)
      go false q i = q

  pub number_some : is_number n f ≡ true → 1 ≤ length f
  unfolding is_number
  number_some e = go (eqb (length f) 0) refl
    where
      go : (t : Bool) → eqb (length f) 0 ≡ t → 1 ≤ length f
      go true z = absurd (false≢true (rw z at e))
      go false z = let s = eqb-false (length f) 0 z in omega arith

  pub number_below : is_number n f ≡ true → number_of f < n
  unfolding is_number
  number_below e =
      ltb-true (number_of f) n ((and-eq-true_iff (not (eqb (length f) 0) && no_leading_zero f && every is_decimal f) (ltb (number_of f) n)).0 e).1
