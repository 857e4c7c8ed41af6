-- A wrong byte makes a wrong record, so refusal 16 depends on the records alone. Lists of the same records are accepted or refused alike.
use Rattle.std.specs.Prelude.{◌≡◌, refl, Bool, true, false, not, ◌&&◌, ◌||◌, List, [], ◌∷◌, map, ◌⊎◌, ℕ, ◌-◌, ltb, leb, eqb, length, take, get_or, if◌then◌else◌}
use Rattle.std.proofs.Common.{◌∙◌, inl, inr, arith, eqb-true, ne_eqb, leb-true}
use Rattle.std.proofs.Math.Bool.{or-true, and-eq-true_iff}
use Rattle.std.proofs.lemmas.Bool.{not-false}
use Rattle.code.specs.Definitions.Lists.{any, every}
use Rattle.code.specs.Definitions.Sheets.{crlf, body, push, records, fields, grid, bad_bytes}
use Rattle.code.specs.Definitions.BanLists.{is_decimal, number_of, no_leading_zero, is_number, ban_of, bad_ban, ban_records, refused16}
use Rattle.code.specs.Laws.Clean.{bad_end, end_split}
use Rattle.code.specs.Laws.Lists.{or_neither}

-- a record whose fields are decimal digits
unfoldable decimal_record : List ℕ → Bool
unfolding every fields
decimal_record r = every (every is_decimal) (fields r)

-- What is said of a list with one more byte in front of its first element is said of the byte and of the list.
push_split : (p : List ℕ → Bool) {Q : Type 0} (a : ℕ) → ((f : List ℕ) → p (a ∷ f) ≡ true → Q × (p f ≡ true)) → (l : List (List ℕ)) → every p (push a l) ≡ true → Q × (every p l ≡ true)
unfolding every
push_split p a split [] e = ((split [] ((and-eq-true_iff (p (a ∷ [])) true).0 e).0).0, refl)
push_split p a split (f ∷ l) e =
    let parts = (and-eq-true_iff (p (a ∷ f)) (every p l)).0 e in
    let first = split f parts.0 in
    (first.0, (and-eq-true_iff (p f) (every p l)).1 (first.1, parts.1))

decimal_first : (a : ℕ) (f : List ℕ) → every is_decimal (a ∷ f) ≡ true → (is_decimal a ≡ true) × (every is_decimal f ≡ true)
unfolding every
decimal_first a f e = (and-eq-true_iff (is_decimal a) (every is_decimal f)).0 e

-- The first byte of such a record is a comma or a decimal digit, and the rest is such a record.
record_first : (a : ℕ) (r : List ℕ) → decimal_record (a ∷ r) ≡ true → ((eqb a 44 ≡ true) ⊎ (is_decimal a ≡ true)) × (decimal_record r ≡ true)
unfolding decimal_record fields every
record_first a r e = by (eqb a 44) refl e
  where
    by : (t : Bool) → eqb a 44 ≡ t → every (every is_decimal) (if t then [] ∷ fields r else push a (fields r)) ≡ true → ((t ≡ true) ⊎ (is_decimal a ≡ true)) × (decimal_record r ≡ true)
    by true h i = (inl refl, i)
    by false h i = let s = push_split (every is_decimal) a (decimal_first a) (fields r) i in (inr s.0, s.1)

byte_good : (a : ℕ) (s : List ℕ) → bad_bytes false s ≡ false → (eqb a 44 ≡ true) ⊎ (is_decimal a ≡ true) → bad_bytes false (a ∷ s) ≡ false
unfolding bad_bytes
byte_good a s e (inl h) = rw (eqb-true a 44 h) e
byte_good a s e (inr h) =
    let low = leb-true 48 a ((and-eq-true_iff (leb 48 a) (leb a 57)).0 h).0 in
    rw (h, ne_eqb a 13 (λ z. omega arith)) e

-- Records of decimal digits have no wrong byte.
bytes_good : (s : List ℕ) → every decimal_record (records s) ≡ true → bad_bytes false s ≡ false
unfolding records every bad_bytes
bytes_good [] e = refl
bytes_good (a ∷ []) e = byte_good a [] refl (record_first a [] ((and-eq-true_iff (decimal_record (a ∷ [])) true).0 e).0).0
bytes_good (a ∷ b ∷ s) e = by_line a b s (bytes_good s) (bytes_good (b ∷ s)) (crlf a b) refl e
  where
    by_line : (a b : ℕ) (s : List ℕ) → (every decimal_record (records s) ≡ true → bad_bytes false s ≡ false) → (every decimal_record (records (b ∷ s)) ≡ true → bad_bytes false (b ∷ s) ≡ false)
        → (t : Bool) → crlf a b ≡ t → every decimal_record (if t then [] ∷ records s else push a (records (b ∷ s))) ≡ true → bad_bytes false (a ∷ b ∷ s) ≡ false
    by_line a b s rest next true h i =
        let ends = (and-eq-true_iff (eqb a 13) (eqb b 10)).0 h in
        rw (eqb-true a 13 ends.0, eqb-true b 10 ends.1) (rest ((and-eq-true_iff (decimal_record []) (every decimal_record (records s))).0 i).1)
    by_line a b s rest next false h i =
        let first = push_split decimal_record a (record_first a) (records (b ∷ s)) i in
        byte_good a (b ∷ s) (next first.1) first.0

-- The CR LF at the end is not wrong.
body_good : (s : List ℕ) → bad_bytes false (body s) ≡ false → bad_bytes false s ≡ false
unfolding body
body_good s e = by (crlf (get_or s (length s - 2) 0) (get_or s (length s - 1) 0)) refl e
  where
    by : (t : Bool) → crlf (get_or s (length s - 2) 0) (get_or s (length s - 1) 0) ≡ t → bad_bytes false (if t then take (length s - 2) s else s) ≡ false → bad_bytes false s ≡ false
    by true h i = rw (end_split s h) (bad_end false (take (length s - 2) s) ∙ i)
    by false h i = i

-- The fields of an accepted record are decimal digits.
number_decimal : (n : ℕ) (f : List ℕ) → is_number n f ≡ true → every is_decimal f ≡ true
unfolding is_number
number_decimal n f e =
    let a = (and-eq-true_iff (not (eqb (length f) 0) && no_leading_zero f && every is_decimal f) (ltb (number_of f) n)).0 e in
    ((and-eq-true_iff (not (eqb (length f) 0) && no_leading_zero f) (every is_decimal f)).0 a.0).1

fields_decimal : (n : ℕ) (r : List (List ℕ)) → every (is_number n) r ≡ true → every (every is_decimal) r ≡ true
unfolding every
fields_decimal n [] e = refl
fields_decimal n (f ∷ r) e =
    let a = (and-eq-true_iff (is_number n f) (every (is_number n) r)).0 e in
    (and-eq-true_iff (every is_decimal f) (every (every is_decimal) r)).1 (number_decimal n f a.0, fields_decimal n r a.1)

record_decimal : (n : ℕ) (r : List (List ℕ)) → bad_ban n r ≡ false → every (every is_decimal) r ≡ true
unfolding bad_ban
record_decimal n r e =
    let a = or_neither (not (eqb (length r) 3 && every (is_number n) r)) (eqb (ban_of r).y (ban_of r).z) e in
    fields_decimal n r ((and-eq-true_iff (eqb (length r) 3) (every (is_number n) r)).0 (not-false _ a.0)).1

records_decimal : (n : ℕ) (l : List (List ℕ)) → any (bad_ban n) (map fields l) ≡ false → every decimal_record l ≡ true
unfolding any every decimal_record
records_decimal n [] e = refl
records_decimal n (r ∷ l) e =
    let a = or_neither (bad_ban n (fields r)) (any (bad_ban n) (map fields l)) e in
    (and-eq-true_iff (decimal_record r) (every decimal_record l)).1 (record_decimal n (fields r) a.0, records_decimal n l a.1)

-- Where no record is wrong, no byte is.
records_bytes : (n : ℕ) (s : List ℕ) → any (bad_ban n) (ban_records s) ≡ false → bad_bytes false s ≡ false
unfolding ban_records grid bad_bytes
records_bytes n [] e = refl
records_bytes n (a ∷ s) e =
    let some : eqb (length (a ∷ s)) 0 ≡ false = ne_eqb (length (a ∷ s)) 0 (λ z. omega arith) in
    body_good (a ∷ s) (bytes_good (body (a ∷ s)) (records_decimal n (records (body (a ∷ s))) (rw some at e)))

-- Refusal 16 depends on the records alone.
pub refused16_records : (n : ℕ) (s : List ℕ) → refused16 n s ≡ any (bad_ban n) (ban_records s)
unfolding refused16
refused16_records n s = by (any (bad_ban n) (ban_records s)) refl
  where
    by : (t : Bool) → any (bad_ban n) (ban_records s) ≡ t → (bad_bytes false s || any (bad_ban n) (ban_records s)) ≡ any (bad_ban n) (ban_records s)
    by true e = rw (e, or-true)
    by false e = rw (records_bytes n s e)
