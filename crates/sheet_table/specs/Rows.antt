-- The row entries of an accepted record: single digits with a comma between, so entry y stands at byte 2 y after the word's comma.
use Rattle.std.specs.Prelude.{◌≡◌, refl, true, false, ◌||◌, ℕ, zero, suc, ◌+◌, ◌*◌, ◌-◌, ◌≤◌, ◌<◌, length, drop, get_or}
use Rattle.std.proofs.Common.{sym, ap, ◌∙◌, true≢false, arith, length-drop, get_or-drop, drop-drop, ne_eqb}
use mathlib.Core.List.{List, [], ◌∷◌, nil≢cons, head-eq_of_cons-eq, tail-eq_of_cons-eq}
use Rattle.code.specs.Definitions.Lists.{any}
use Rattle.code.specs.Definitions.Sheets.{is_digit, bad_entry, records, fields}
use Rattle.code.specs.Laws.Lists.{or_neither}
use Rattle.code.specs.Laws.Clean.{Clean, record_fields, records_some, fields_some, record_fields_some}
use Rattle.csv_records.specs.Fields.{leading, leading_at}
use Rattle.csv_records.specs.Front.{Front, at_end, at_comma, at_line, front}

-- after a record: the end of the sheet, or a CR LF and the records g
pub data After (g : List (List (List ℕ))) : List ℕ → Type 0 where
  over : g ≡ [] → After g []
  down : {u : List ℕ} → Clean u → record_fields u ≡ g → After g (13 ∷ 10 ∷ u)

-- t begins with the entries r of a row, and goes on with the records g
pub record Entries (t : List ℕ) (r : List (List ℕ)) (g : List (List (List ℕ))) : Type 0 where
  pub bytes : (y : ℕ) → y < length r → get_or t (2 * y) 48 ≡ get_or (get_or r y []) 0 48
  pub digits : (y : ℕ) → y < length r → is_digit (get_or t (2 * y) 48) ≡ true
  pub long : 2 * length r ≤ length t + 1
  pub after : After g (drop (2 * length r - 1) t)

-- a good entry is one byte
single : (f : List ℕ) → bad_entry f ≡ false → (b : ℕ) × (f ≡ b ∷ [])
single [] e = absurd (true≢false e)
single (b ∷ []) e = (b, refl)
single (b ∷ c ∷ f) e = absurd (true≢false (rw (ne_eqb (length (b ∷ c ∷ f)) 1 (λ q. omega arith)) at e))

entries_last : (b : ℕ) (u : List ℕ) (g : List (List (List ℕ))) → is_digit b ≡ true → After g u → Entries (b ∷ u) ((b ∷ []) ∷ []) g
entries_last b u g d a = record {
  bytes = λ y h. first y (omega arith);
  digits = λ y h. first_digit y (omega arith);
  long = omega arith;
  after = a;
}
  where
    first : (y : ℕ) → y ≡ 0 → get_or (b ∷ u) (2 * y) 48 ≡ get_or (get_or ((b ∷ []) ∷ []) y []) 0 48
    first y e = rw e

    first_digit : (y : ℕ) → y ≡ 0 → is_digit (get_or (b ∷ u) (2 * y) 48) ≡ true
    first_digit y e = rw e d

twice : (y : ℕ) → 2 * suc y ≡ suc (suc (2 * y))
twice y = omega arith

entries_more : (b : ℕ) (t : List ℕ) (r : List (List ℕ)) (g : List (List (List ℕ))) → is_digit b ≡ true → 1 ≤ length r → Entries t r g
    → Entries (b ∷ 44 ∷ t) ((b ∷ []) ∷ r) g
entries_more b t r g d h e = record { bytes = bytes_on; digits = digits_on; long = omega (arith, e.long); after = rw gone e.after }
  where
    bytes_on : (y : ℕ) → y < suc (length r) → get_or (b ∷ 44 ∷ t) (2 * y) 48 ≡ get_or (get_or ((b ∷ []) ∷ r) y []) 0 48
    bytes_on zero l = refl
    bytes_on (suc y) l = rw (twice y) (e.bytes y (omega arith))

    digits_on : (y : ℕ) → y < suc (length r) → is_digit (get_or (b ∷ 44 ∷ t) (2 * y) 48) ≡ true
    digits_on zero l = d
    digits_on (suc y) l = rw (twice y) (e.digits y (omega arith))

    gone : 2 * suc (length r) - 1 ≡ suc (suc (2 * length r - 1))
    gone = omega arith

-- what the first entry is, where its row is good
record First (f t u : List ℕ) : Type 0 where
  pub byte : ℕ
  pub is : f ≡ byte ∷ []
  pub digit : is_digit byte ≡ true
  pub same : t ≡ byte ∷ u

first_byte : (a b : ℕ) (f t u : List ℕ) → f ≡ b ∷ [] → leading (a ∷ t) ≡ b ∷ [] → drop (length (leading (a ∷ t))) (a ∷ t) ≡ u → First f (a ∷ t) u
first_byte a b f t u p l q =
    let n : length (leading (a ∷ t)) ≡ 1 = ap length l in
    let at = leading_at (a ∷ t) 0 48 (omega arith) in
    let same : a ≡ b = at.0 ∙ rw l in
    record { byte = b; is = p; digit = rw same at at.1; same = rw same (ap (λ (v : List ℕ). b ∷ v) (rw n at q)) }

first_entry : (f t u : List ℕ) → f ≡ leading t → drop (length (leading t)) t ≡ u → bad_entry f ≡ false → First f t u
unfolding leading
first_entry f [] u e q o = absurd (true≢false (rw e at o))
first_entry f (a ∷ t) u e q o = let s = single f o in first_byte a s.0 f t u s.1 (sym e ∙ s.1) q

-- two lists of records with the same first field, rest of the first record, and other records
heads : {f h : List ℕ} {r x : List (List ℕ)} {g y : List (List (List ℕ))} → (f ∷ r) ∷ g ≡ (h ∷ x) ∷ y → (f ≡ h) × (r ≡ x) × (g ≡ y)
heads e = let row = head-eq_of_cons-eq e in (head-eq_of_cons-eq row, tail-eq_of_cons-eq row, tail-eq_of_cons-eq e)

-- the first record of a string has a field
first_some : (t : List ℕ) → get_or (record_fields t) 0 [] ≡ [] → ⊥
first_some t e =
    let l : List ℕ = get_or (records t) 0 [] in
    let q : get_or (record_fields t) 0 [] ≡ get_or (fields l) 0 [] ∷ drop 1 (fields l) = rw (records_some t) (fields_some l) in
    nil≢cons (sym e ∙ q)

recast : {t u f h : List ℕ} {r : List (List ℕ)} {g : List (List (List ℕ))} → t ≡ u → f ≡ h → Entries u (h ∷ r) g → Entries t (f ∷ r) g
recast p q e = rw (p, q) e

module _ (f t : List ℕ) (g : List (List (List ℕ))) (good : bad_entry f ≡ false) where
  -- the last entry of a row
  last_entry_lem : {u : List ℕ} → Front (record_fields t) (leading t) u → drop (length (leading t)) t ≡ u → record_fields t ≡ (f ∷ []) ∷ g → Entries t (f ∷ []) g
  last_entry_lem (at_end p) q e =
      let h = heads (sym e ∙ p) in let b = first_entry f t [] h.0 q good in
      recast b.same b.is (entries_last b.byte [] g b.digit (over h.2))
  last_entry_lem (at_comma {t = u} c p) q e = absurd (first_some u (sym (heads (sym e ∙ p)).1))
  last_entry_lem (at_line {t = u} c p) q e =
      let h = heads (sym e ∙ p) in let b = first_entry f t (13 ∷ 10 ∷ u) h.0 q good in
      recast b.same b.is (entries_last b.byte (13 ∷ 10 ∷ u) g b.digit (down c (sym h.2)))

  -- an entry with another after it
  next_entry : (h : List ℕ) (r : List (List ℕ)) → ((u : List ℕ) → Clean u → record_fields u ≡ (h ∷ r) ∷ g → Entries u (h ∷ r) g)
      → {u : List ℕ} → Front (record_fields t) (leading t) u → drop (length (leading t)) t ≡ u → record_fields t ≡ (f ∷ h ∷ r) ∷ g → Entries t (f ∷ h ∷ r) g
  next_entry h r rest (at_end p) q e = absurd (nil≢cons (sym (heads (sym e ∙ p)).1))
  next_entry h r rest (at_comma {t = u} c p) q e =
      let k = heads (sym e ∙ p) in let b = first_entry f t (44 ∷ u) k.0 q good in
      let s : record_fields u ≡ (h ∷ r) ∷ g = record_fields_some u ∙ rw (← k.1, ← k.2) in
      recast b.same b.is (entries_more b.byte u (h ∷ r) g b.digit (omega arith) (rest u c s))
  next_entry h r rest (at_line c p) q e = absurd (nil≢cons (sym (heads (sym e ∙ p)).1))

entries_on : (r : List (List ℕ)) (f t : List ℕ) (g : List (List (List ℕ))) → Clean t → record_fields t ≡ (f ∷ r) ∷ g → any bad_entry (f ∷ r) ≡ false
    → Entries t (f ∷ r) g
unfolding any
entries_on [] f t g c e o = last_entry_lem f t g (or_neither (bad_entry f) false o).0 (front c) refl e
entries_on (h ∷ r) f t g c e o =
    let n = or_neither (bad_entry f) (bad_entry h || any bad_entry r) o in
    next_entry f t g n.0 h r (λ u k q. entries_on r h u g k q n.1) (front c) refl e

-- The entries of a good row stand where they should.
pub row_entries : (r : List (List ℕ)) (t : List ℕ) (g : List (List (List ℕ))) → Clean t → record_fields t ≡ r ∷ g → 1 ≤ length r → any bad_entry r ≡ false
    → Entries t r g
row_entries [] t g c e h o = absurd (omega arith)
row_entries (f ∷ r) t g c e h o = entries_on r f t g c e o

-- The entries after the first stand two bytes further.
pub entries_rest : (t : List ℕ) (f : List ℕ) (r : List (List ℕ)) (g : List (List (List ℕ))) → Entries t (f ∷ r) g → 1 ≤ length r → Entries (drop 2 t) r g
entries_rest t f r g e h = record {
  bytes = λ y l. rw (at y) (e.bytes (suc y) (omega arith));
  digits = λ y l. rw (at y) (e.digits (suc y) (omega arith));
  long = omega (arith, e.long, length-drop 2 t);
  after = rw gone e.after;
}
  where
    at : (y : ℕ) → get_or (drop 2 t) (2 * y) 48 ≡ get_or t (2 * suc y) 48
    at y = let two : 2 + 2 * y ≡ 2 * suc y = omega arith in get_or-drop 2 t (2 * y) 48 ∙ rw two

    gone : drop (2 * length r - 1) (drop 2 t) ≡ drop (2 * suc (length r) - 1) t
    gone = let two : 2 + (2 * length r - 1) ≡ 2 * suc (length r) - 1 = omega arith in drop-drop (2 * length r - 1) 2 t ∙ rw two
