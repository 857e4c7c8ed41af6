-- Lists joined with a separator between them: parting the whole gives them back, whatever parts at the separator; records and fields both do.
use Rattle.std.specs.Prelude.{◌≡◌, refl, Bool, true, false, ◌||◌, ℕ, ◌+◌, ◌≤◌, eqb, length}
use Rattle.std.proofs.Common.{◌∙◌, arith, length-append, eqb-true}
use Rattle.std.proofs.Math.Bool.{and-eq-true_iff}
use mathlib.Core.List.{List, [], ◌∷◌, ◌++◌, map, append-nil}
use Rattle.code.specs.Definitions.Lists.{every, sum, join}
use Rattle.code.specs.Definitions.Sheets.{is_digit, push, records, fields, bad_bytes}
use Rattle.code.specs.Laws.Clean.{digit_other, records_digit, records_comma, records_line, fields_digit, fields_comma}

module _ (part : List ℕ → List (List ℕ)) (sep : List ℕ) (good : ℕ → Bool) (none : part [] ≡ [] ∷ []) (cut : (s : List ℕ) → part (sep ++ s) ≡ [] ∷ part s)
    (grow : (a : ℕ) (s : List ℕ) → good a ≡ true → part (a ∷ s) ≡ push a (part s)) where
  part_front : (f s : List ℕ) (r : List (List ℕ)) → every good f ≡ true → part s ≡ [] ∷ r → part (f ++ s) ≡ f ∷ r
  unfolding every
  part_front [] s r e p = p
  part_front (a ∷ f) s r e p =
      let parts = (and-eq-true_iff (good a) (every good f)).0 e in
      grow a (f ++ s) parts.0 ∙ rw (part_front f s r parts.1 p)

  pub part_join : (fs : List (List ℕ)) → 1 ≤ length fs → every (every good) fs ≡ true → part (join sep fs) ≡ fs
  unfolding join every
  part_join [] h e = absurd (omega arith)
  part_join (f ∷ []) h e = rw (append-nil f) at (part_front f [] [] ((and-eq-true_iff (every good f) true).0 e).0 none)
  part_join (f ∷ g ∷ fs) h e =
      let parts = (and-eq-true_iff (every good f) (every (every good) (g ∷ fs))).0 e in
      part_front f (sep ++ join sep (g ∷ fs)) (g ∷ fs) parts.0 (cut (join sep (g ∷ fs)) ∙ rw (part_join (g ∷ fs) (omega arith) parts.1))

-- Fields of digits, parted by commas

pub fields_join : (fs : List (List ℕ)) → 1 ≤ length fs → every (every is_digit) fs ≡ true → fields (join (44 ∷ []) fs) ≡ fs
unfolding fields
fields_join = part_join fields (44 ∷ []) is_digit refl fields_comma fields_digit

-- Records of digits and commas, parted by CR LF

abbrev pub is_plain : ℕ → Bool
is_plain a = is_digit a || eqb a 44

plain_cases : (P : ℕ → Type 0) (a : ℕ) → is_plain a ≡ true → (is_digit a ≡ true → P a) → P 44 → P a
plain_cases P a e of-digit of-comma = by_digit (is_digit a) refl
  where
    by_digit : (t : Bool) → is_digit a ≡ t → P a
    by_digit true p = of-digit p
    by_digit false p = rw (eqb-true a 44 (rw p at e)) of-comma

records_plain : (a : ℕ) (s : List ℕ) → is_plain a ≡ true → records (a ∷ s) ≡ push a (records s)
records_plain a s e = plain_cases (λ b. records (b ∷ s) ≡ push b (records s)) a e (records_digit a s) (records_comma s)

pub records-join : (rs : List (List ℕ)) → 1 ≤ length rs → every (every is_plain) rs ≡ true → records (join (13 ∷ 10 ∷ []) rs) ≡ rs
unfolding records
records-join = part_join records (13 ∷ 10 ∷ []) is_plain refl records_line records_plain

-- Refusal 2 does not hold of such records.

bad_plain : (a : ℕ) (s : List ℕ) → is_plain a ≡ true → bad_bytes false (a ∷ s) ≡ bad_bytes false s
unfolding bad_bytes
bad_plain a s e =
    plain_cases (λ b. bad_bytes false (b ∷ s) ≡ bad_bytes false s) a e (λ p. rw (p, digit_other a 13 p refl)) refl

bad_front : (f s : List ℕ) → every is_plain f ≡ true → bad_bytes false (f ++ s) ≡ bad_bytes false s
unfolding every
bad_front [] s e = refl
bad_front (a ∷ f) s e =
    let parts = (and-eq-true_iff (is_plain a) (every is_plain f)).0 e in
    bad_plain a (f ++ s) parts.0 ∙ bad_front f s parts.1

pub bad_join : (rs : List (List ℕ)) → every (every is_plain) rs ≡ true → bad_bytes false (join (13 ∷ 10 ∷ []) rs) ≡ false
unfolding join every bad_bytes
bad_join [] e = refl
bad_join (f ∷ []) e = rw (append-nil f) at (bad_front f [] ((and-eq-true_iff (every is_plain f) true).0 e).0)
bad_join (f ∷ g ∷ fs) e =
    let parts = (and-eq-true_iff (every is_plain f) (every (every is_plain) (g ∷ fs))).0 e in
    bad_front f (13 ∷ 10 ∷ join (13 ∷ 10 ∷ []) (g ∷ fs)) parts.0 ∙ bad_join (g ∷ fs) parts.1

-- A record of fields of digits is of digits and commas.

every_append : (p : ℕ → Bool) (l m : List ℕ) → every p l ≡ true → every p m ≡ true → every p (l ++ m) ≡ true
unfolding every
every_append p [] m e f = f
every_append p (a ∷ l) m e f =
    let parts = (and-eq-true_iff (p a) (every p l)).0 e in
    rw (parts.0, every_append p l m parts.1 f)

plain_digits : (f : List ℕ) → every is_digit f ≡ true → every is_plain f ≡ true
unfolding every
plain_digits [] e = refl
plain_digits (a ∷ f) e =
    let parts = (and-eq-true_iff (is_digit a) (every is_digit f)).0 e in
    rw (parts.0, plain_digits f parts.1)

pub plain_join : (fs : List (List ℕ)) → every (every is_digit) fs ≡ true → every is_plain (join (44 ∷ []) fs) ≡ true
unfolding join every
plain_join [] e = refl
plain_join (f ∷ []) e = plain_digits f ((and-eq-true_iff (every is_digit f) true).0 e).0
plain_join (f ∷ g ∷ fs) e =
    let parts = (and-eq-true_iff (every is_digit f) (every (every is_digit) (g ∷ fs))).0 e in
    every_append is_plain f (44 ∷ join (44 ∷ []) (g ∷ fs)) (plain_digits f parts.0) (plain_join (g ∷ fs) parts.1)

-- What is joined is no longer than its parts, each with a separator but for the last.
pub length-join : (sep : List ℕ) (fs : List (List ℕ)) → 1 ≤ length fs → length (join sep fs) + length sep ≤ sum (map (λ (f : List ℕ). length f + length sep) fs)
unfolding join sum
length-join sep [] h = absurd (omega arith)
length-join sep (f ∷ []) h = omega arith
length-join sep (f ∷ g ∷ fs) h =
    omega (arith, length-append f (sep ++ join sep (g ∷ fs)), length-append sep (join sep (g ∷ fs)), length-join sep (g ∷ fs) (omega arith))
