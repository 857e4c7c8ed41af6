-- How a pass over the bytes of a file meets refusal 2, the final CR LF, and the digits of a field.
use Rattle.std.specs.Prelude.{◌≡◌, refl, Bool, true, false, not, ◌||◌, List, [], ◌∷◌, ℕ, zero, suc, ◌+◌, ◌-◌, ◌≤◌, ◌<◌, leb, eqb, length, take, drop, get_or, if◌then◌else◌}
use Rattle.std.proofs.lemmas.Bool.{false≢true}
use Rattle.std.proofs.Math.Bool.{and-false}
use Rattle.std.proofs.Common.{add-one, arith, drop_of_length-le, drop-cons, length-take-le, leb-true, eqb-true, ne_eqb}
use Rattle.std.proofs.Math.Decide.{dec_lt}
use Rattle.std.proofs.Math.Seq.{take-length}
use Rattle.std.specs.List.{prefix_len}
use Rattle.std.proofs.lemmas.Grind.{common_steps}
use Rattle.code.specs.Definitions.Sheets.{is_digit, bad_bytes, body, crlf}

-- a digit's byte is 48 at least
pub digit_from : (b : ℕ) → is_digit b ≡ true → 48 ≤ b
digit_from b e = go (leb 48 b) (leb 65 b) refl refl
  where
    go : (t u : Bool) → leb 48 b ≡ t → leb 65 b ≡ u → 48 ≤ b
    go true u p q = leb-true 48 b p
    go false true p q = omega (arith, leb-true 65 b q)
    go false false p q = absurd (false≢true (rw (p, q) at e))

-- refusal 2 at one byte, and whether the byte after it stands after a CR
abbrev pub bad_byte : Bool → ℕ → Bool
bad_byte true a = not (eqb a 10)
bad_byte false a = not (is_digit a || eqb a 44 || eqb a 13)

abbrev pub after_cr : Bool → ℕ → Bool
after_cr true a = false
after_cr false a = eqb a 13

bad_more : (cr : Bool) (a : ℕ) (s : List ℕ) → bad_bytes cr (a ∷ s) ≡ bad_byte cr a || bad_bytes (after_cr cr a) s
unfolding bad_bytes
bad_more true a s = refl
bad_more false a s = refl

-- Behind a byte that is not wrong, the next stands after a CR exactly if it is one.
after_right : (cr : Bool) (a : ℕ) → bad_byte cr a ≡ false → after_cr cr a ≡ eqb a 13
after_right false a h = refl
after_right true a h = grind (arith, common_steps)

-- A pass over the bytes: a wrong one, one that is not wrong, and the end.
pub bad_here : (cr : Bool) (s : List ℕ) (i : ℕ) → i < length s → bad_byte cr (get_or s i 0) ≡ true → bad_bytes cr (drop i s) ≡ true
bad_here cr s i h e = rw (drop-cons s i 0 h, bad_more, e)

pub bad_on : (cr : Bool) (s : List ℕ) (i : ℕ) → i < length s → bad_byte cr (get_or s i 0) ≡ false
    → bad_bytes (eqb (get_or s i 0) 13) (drop (i + 1) s) ≡ bad_bytes cr (drop i s)
bad_on cr s i h e = rw (add-one i, drop-cons s i 0 h, bad_more, e, after_right cr (get_or s i 0) e)

pub bad_end : (cr : Bool) (s : List ℕ) (i : ℕ) → length s ≤ i → bad_bytes cr (drop i s) ≡ cr
unfolding bad_bytes
bad_end cr s i h = rw (drop_of_length-le s h)

pub ruleset bad_steps = (bad_here, bad_on, bad_end)

-- the final CR LF, by the tests in turn
crlf_once : (a : ℕ) → crlf a a ≡ false
crlf_once a = go (eqb a 13) refl
  where
    go : (t : Bool) → eqb a 13 ≡ t → crlf a a ≡ false
    go true e = rw (eqb-true a 13 e)
    go false e = rw e

pub body_short : (s : List ℕ) → length s < 2 → take (length s) s ≡ body s
unfolding body
body_short [] h = refl
body_short (a ∷ []) h = rw (crlf_once a)
body_short (a ∷ b ∷ s) h = absurd (omega arith)

pub body_no_cr : (s : List ℕ) → (get_or s (length s - 2) 0 ≡ 13 → ⊥) → take (length s) s ≡ body s
unfolding body
body_no_cr s n = rw (ne_eqb (get_or s (length s - 2) 0) 13 n, take-length)

pub body_no_lf : (s : List ℕ) → (get_or s (length s - 1) 0 ≡ 10 → ⊥) → take (length s) s ≡ body s
unfolding body
body_no_lf s n = rw (ne_eqb (get_or s (length s - 1) 0) 10 n, and-false, take-length)

pub body_end : (s : List ℕ) → get_or s (length s - 2) 0 ≡ 13 → get_or s (length s - 1) 0 ≡ 10 → take (length s - 2) s ≡ body s
unfolding body
body_end s p q = rw (p, q)

-- the same, by the length of what is left
pub body_cut : (s : List ℕ) → 2 ≤ length s → get_or s (length s - 2) 0 ≡ 13 → get_or s (length s - 1) 0 ≡ 10
    → take (length (take (length s - 2) s)) s ≡ body s
body_cut s h p q = rw (length-take-le (length s - 2) s (omega arith)) (body_end s p q)

pub ruleset body_ways = (body_short, body_no_cr, body_no_lf, body_cut)

-- the digits at the front of a byte string
unfoldable pub leading : List ℕ → List ℕ
leading [] = []
leading (a ∷ s) = if is_digit a then a ∷ leading s else []

pub leading_count : (s : List ℕ) → length (leading s) ≡ prefix_len is_digit s
unfolding leading
leading_count [] = refl
leading_count (a ∷ s) = by_digit (is_digit a) refl (leading_count s)
  where
    by_digit : (d : Bool) → is_digit a ≡ d → length (leading s) ≡ prefix_len is_digit s → length (leading (a ∷ s)) ≡ prefix_len is_digit (a ∷ s)
    by_digit true e rest = rw (e, rest) (omega arith)
    by_digit false e rest = rw e

-- no digit stands in front of another byte, or at the end
pub leading_stop : (s : List ℕ) (i : ℕ) → i < length s → is_digit (get_or s i 0) ≡ false → length (leading (drop i s)) ≡ 0
unfolding leading
leading_stop s i h d = rw (drop-cons s i 0 h, d)

pub leading_end : (s : List ℕ) (i : ℕ) → length s ≤ i → length (leading (drop i s)) ≡ 0
unfolding leading
leading_end s i h = rw (drop_of_length-le s h)

-- a field that is not empty begins with the digit that stands there
pub leading_first : (s : List ℕ) (i : ℕ) → 0 < length (leading (drop i s))
    → (leading (drop i s) ≡ get_or s i 0 ∷ leading (drop (i + 1) s)) × (is_digit (get_or s i 0) ≡ true)
unfolding leading
leading_first s i h = go (dec_lt i (length s)) (is_digit (get_or s i 0)) refl
  where
    go : Dec (i < length s) → (t : Bool) → is_digit (get_or s i 0) ≡ t
        → (leading (drop i s) ≡ get_or s i 0 ∷ leading (drop (i + 1) s)) × (is_digit (get_or s i 0) ≡ true)
    go (yes l) true e = (rw (add-one i, drop-cons s i 0 l, e), e)
    go (yes l) false e = absurd (omega (arith, leading_stop s i l e))
    go (no l) t e = absurd (omega (arith, leading_end s i (omega arith)))

-- the bytes of a field are digits, and stand at the front in order
pub leading_at : (t : List ℕ) (k d : ℕ) → k < length (leading t) → (get_or t k d ≡ get_or (leading t) k d) × (is_digit (get_or t k d) ≡ true)
unfolding leading
leading_at [] k d h = absurd (omega arith)
leading_at (a ∷ t) k d h = by_digit a t k d (leading_at t) (is_digit a) refl h
  where
    at_front : (a : ℕ) (t : List ℕ) (k d : ℕ) → is_digit a ≡ true
        → ((k d : ℕ) → k < length (leading t) → (get_or t k d ≡ get_or (leading t) k d) × (is_digit (get_or t k d) ≡ true))
        → k < suc (length (leading t)) → (get_or (a ∷ t) k d ≡ get_or (a ∷ leading t) k d) × (is_digit (get_or (a ∷ t) k d) ≡ true)
    at_front a t zero d e rest h = (refl, e)
    at_front a t (suc k) d e rest h = rest k d (omega arith)

    by_digit : (a : ℕ) (t : List ℕ) (k d : ℕ)
        → ((k d : ℕ) → k < length (leading t) → (get_or t k d ≡ get_or (leading t) k d) × (is_digit (get_or t k d) ≡ true))
        → (b : Bool) → is_digit a ≡ b → k < length (leading (a ∷ t)) → (get_or (a ∷ t) k d ≡ get_or (leading (a ∷ t)) k d) × (is_digit (get_or (a ∷ t) k d) ≡ true)
    by_digit a t k d rest true e h = rw e (at_front a t k d e rest (rw e at h))
    by_digit a t k d rest false e h = let z : k < 0 = rw e at h in absurd (omega arith)
