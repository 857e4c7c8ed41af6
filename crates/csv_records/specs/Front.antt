-- What stands at the front of a clean byte string: the digits of a field, and after them the end, a comma or a CR LF. A pass goes from field to field by this.
use Rattle.std.specs.Prelude.{◌≡◌, Bool, true, ℕ, suc, ◌+◌, ◌≤◌, ◌<◌, leb, length, drop, get_or, if◌then◌else◌}
use Rattle.std.proofs.Common.{sym, ◌∙◌, add-one, arith, length-drop, drop_of_length-le, drop-cons, drop-drop, le-leb}
use mathlib.Core.List.{List, [], ◌∷◌, nil≢cons, head-eq_of_cons-eq, tail-eq_of_cons-eq}
use Rattle.std.proofs.Math.Decide.{dec_lt}
use Rattle.std.proofs.Math.ListN.{get_or-eq_default}
use Rattle.std.proofs.lemmas.Bool.{lt-leb}
use Rattle.code.specs.Definitions.Lists.{any}
use Rattle.code.specs.Definitions.Sheets.{is_digit, push}
use Rattle.code.specs.Laws.Clean.{Clean, none, digit, comma, line, record_fields, record_fields_none, record_fields_digit, record_fields_comma, record_fields_line}
use Rattle.csv_records.specs.Fields.{leading}

-- g are the fields, record by record, of a string whose first field is f and that goes on with t
pub data Front (g : List (List (List ℕ))) (f : List ℕ) : List ℕ → Type 0 where
  at_end : g ≡ (f ∷ []) ∷ [] → Front g f []
  at_comma : {t : List ℕ} → Clean t → g ≡ (f ∷ get_or (record_fields t) 0 []) ∷ drop 1 (record_fields t) → Front g f (44 ∷ t)
  at_line : {t : List ℕ} → Clean t → g ≡ (f ∷ []) ∷ record_fields t → Front g f (13 ∷ 10 ∷ t)

front_digit : (a : ℕ) {g h : List (List (List ℕ))} {f t : List ℕ} → h ≡ push a (get_or g 0 []) ∷ drop 1 g → Front g f t → Front h (a ∷ f) t
front_digit a e (at_end p) = at_end (e ∙ rw p)
front_digit a e (at_comma c p) = at_comma c (e ∙ rw p)
front_digit a e (at_line c p) = at_line c (e ∙ rw p)

front_on : (a : ℕ) (s : List ℕ) → is_digit a ≡ true → Front (record_fields s) (leading s) (drop (length (leading s)) s)
    → Front (record_fields (a ∷ s)) (leading (a ∷ s)) (drop (length (leading (a ∷ s))) (a ∷ s))
unfolding leading
front_on a s p r = rw p (front_digit a (record_fields_digit a s p) r)

-- Every clean string is so made.
pub front : {s : List ℕ} → Clean s → Front (record_fields s) (leading s) (drop (length (leading s)) s)
unfolding leading
front none = at_end record_fields_none
front (digit {a} {s} p c) = front_on a s p (front c)
front (comma {s} c) = at_comma c (record_fields_comma s)
front (line {s} c) = at_line c (record_fields_line s)

-- Its first record begins with its first field.
pub first_field_lem : {t : List ℕ} → Clean t → record_fields t ≡ (leading t ∷ drop 1 (get_or (record_fields t) 0 [])) ∷ drop 1 (record_fields t)
first_field_lem c = begins (front c)
  where
    begins : {g : List (List (List ℕ))} {f t : List ℕ} → Front g f t → g ≡ (f ∷ drop 1 (get_or g 0 [])) ∷ drop 1 g
    begins (at_end p) = rw p
    begins (at_comma c p) = rw p
    begins (at_line c p) = rw p

-- a field, and the record that goes on behind its comma
pub joined : {g : List (List (List ℕ))} (f : List ℕ) (h : List (List (List ℕ))) (r : List (List ℕ)) (l : List (List (List ℕ)))
    → g ≡ (f ∷ get_or h 0 []) ∷ drop 1 h → h ≡ r ∷ l → g ≡ (f ∷ r) ∷ l
joined f h r l e q = rw q at e

-- A first record that is refused
pub any_first : (p : List (List ℕ) → Bool) {g : List (List (List ℕ))} (r : List (List ℕ)) (l : List (List (List ℕ))) → g ≡ r ∷ l → p r ≡ true → any p g ≡ true
unfolding any
any_first p r l e b = rw (e, b)

-- What a test of the byte after the field tells.
pub record Next (g : List (List (List ℕ))) (f t : List ℕ) : Type 0 where
  pub clean : Clean t
  pub same : g ≡ (f ∷ get_or (record_fields t) 0 []) ∷ drop 1 (record_fields t)

pub record Down (g : List (List (List ℕ))) (f t : List ℕ) : Type 0 where
  pub clean : Clean t
  pub same : g ≡ (f ∷ []) ∷ record_fields t

module _ {g : List (List (List ℕ))} {f : List ℕ} where
  is_end_lem : {u : List ℕ} → Front g f u → u ≡ [] → g ≡ (f ∷ []) ∷ []
  is_end_lem (at_end p) e = p
  is_end_lem (at_comma {t} c p) e = absurd (nil≢cons (sym e))
  is_end_lem (at_line {t} c p) e = absurd (nil≢cons (sym e))

  is_comma : {u t : List ℕ} → Front g f u → u ≡ 44 ∷ t → Next g f t
  is_comma (at_end p) e = absurd (nil≢cons e)
  is_comma {t = t} (at_comma {t = v} c p) e = moved v t (tail-eq_of_cons-eq e) c p
    where
      moved : (v t : List ℕ) → v ≡ t → Clean v → g ≡ (f ∷ get_or (record_fields v) 0 []) ∷ drop 1 (record_fields v) → Next g f t
      moved v t q c p = record { clean = rw q at c; same = rw q at p }
  is_comma (at_line c p) e = absurd (no_comma (head-eq_of_cons-eq e))
    where
      no_comma : ◌≡◌ {A = ℕ} 13 44 → ⊥
      no_comma z = omega arith

  is_line : {u t : List ℕ} {b : ℕ} → Front g f u → u ≡ b ∷ t → (b ≡ 44 → ⊥) → Down g f (drop 1 t) × (1 ≤ length t)
  is_line (at_end p) e n = absurd (nil≢cons e)
  is_line (at_comma c p) e n = absurd (n (sym (head-eq_of_cons-eq e)))
  is_line {t = t} (at_line {t = v} c p) e n = moved v t (tail-eq_of_cons-eq e) c p
    where
      moved : (v t : List ℕ) → 10 ∷ v ≡ t → Clean v → g ≡ (f ∷ []) ∷ record_fields v → Down g f (drop 1 t) × (1 ≤ length t)
      moved v t q c p = rw (← q) (record { clean = c; same = p }, omega arith)

-- the records from a position on; a position past the end is past the last record
abbrev pub rest_of : List ℕ → ℕ → List (List (List ℕ))
rest_of s at = if leb at (length s) then record_fields (drop at s) else []

pub rest_within : (s : List ℕ) (at : ℕ) → at ≤ length s → rest_of s at ≡ record_fields (drop at s)
rest_within s at h = rw (le-leb at (length s) h)

pub rest_past : (s : List ℕ) (at : ℕ) → length s < at → rest_of s at ≡ []
rest_past s at h = rw (lt-leb at (length s) h)

-- past the end a read gives 0, which is no comma
pub comma_within : (s : List ℕ) (e : ℕ) → get_or s e 0 ≡ 44 → e < length s
comma_within s e k = go (dec_lt e (length s))
  where
    go : Dec (e < length s) → e < length s
    go (yes h) = h
    go (no h) = let l : length s ≤ e = omega arith in absurd (omega (arith, get_or-eq_default s 0 l))

-- The same by position: the field that begins at `at` ends at e.
module _ (s : List ℕ) (at e : ℕ) (c : Clean (drop at s)) (q : e ≡ at + length (leading (drop at s))) where
  front_at : Front (record_fields (drop at s)) (leading (drop at s)) (drop e s)
  front_at = rw (q, ← drop-drop (length (leading (drop at s))) at s) (front c)

  pub field_last : length s ≤ e → record_fields (drop at s) ≡ (leading (drop at s) ∷ []) ∷ []
  field_last h = is_end_lem front_at (drop_of_length-le s h)

  pub field_comma : e < length s → get_or s e 0 ≡ 44 → Next (record_fields (drop at s)) (leading (drop at s)) (drop (e + 1) s)
  field_comma h k = rw add-one (is_comma front_at (drop-cons s e 0 h ∙ rw k))

  pub field_line : e < length s → (get_or s e 0 ≡ 44 → ⊥) → Down (record_fields (drop at s)) (leading (drop at s)) (drop (e + 2) s) × (e + 2 ≤ length s)
  field_line h n =
      let r = is_line front_at (drop-cons s e 0 h) n in
      (rw (drop-drop 1 (suc e) s, two) at r.0, omega (arith, r.1, length-drop (suc e) s))
    where
      two : suc e + 1 ≡ e + 2
      two = omega arith

  -- The byte at e alone tells whether the record goes on, and where the next one begins.
  pub record_goes_on : get_or s e 0 ≡ 44 → Next (record_fields (drop at s)) (leading (drop at s)) (drop (e + 1) s) × (e < length s)
  record_goes_on k = let h = comma_within s e k in (field_comma h k, h)

  pub record_ends : (get_or s e 0 ≡ 44 → ⊥) → (record_fields (drop at s) ≡ (leading (drop at s) ∷ []) ∷ rest_of s (e + 2)) × (e + 2 ≤ length s → Clean (drop (e + 2) s))
  record_ends n = go (dec_lt e (length s))
    where
      go : Dec (e < length s) → (record_fields (drop at s) ≡ (leading (drop at s) ∷ []) ∷ rest_of s (e + 2)) × (e + 2 ≤ length s → Clean (drop (e + 2) s))
      go (yes h) = let d = field_line h n in (rw (rest_within s (e + 2) d.1) d.0.same, λ l. d.0.clean)
      go (no h) = (rw (rest_past s (e + 2) (omega arith)) (field_last (omega arith)), λ l. absurd (omega arith))
