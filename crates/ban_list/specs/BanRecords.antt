-- A record of a ban list by its fields: the byte behind each tells whether there are three, and what was read of them whether they are a ban.
use Rattle.std.specs.Prelude.{◌≡◌, List, [], ◌∷◌, ℕ, ◌+◌, ◌≤◌, length, drop, get_or, Some, None}
use Rattle.std.proofs.Math.Path.{refl}
use Rattle.std.proofs.Common.{sym, ◌∙◌, arith, eqb-true, eq-eqb, ne_eqb}
use Rattle.std.proofs.Math.Bool.{true, false, not, and-false}
use Rattle.std.proofs.Math.Dec.{eqb}
use Rattle.std.proofs.lemmas.Bool.{eqb-false, not-true, not-false}
use Rattle.code.specs.Definitions.Lists.{any, every}
use Rattle.code.specs.Definitions.BanLists.{number_of, is_number, bad_ban}
use Rattle.code.specs.Laws.Clean.{Clean, record_fields}
use Rattle.csv_records.specs.Fields.{leading}
use Rattle.csv_records.specs.Front.{Next, rest_of, comma_within, first_field_lem, joined, any_first, record_goes_on, record_ends}
use Rattle.ban_list.specs.declared.fields.Field.{Field}
use Rattle.ban_list.specs.Numbers.{number_some, number_read, number_wrong, number_below}
use Rattle.ban_list.specs.Ensured.{FieldAt, BanFrom}

-- A record by the number of its fields.
module _ (n : ℕ) (f g h : List ℕ) where
  one_field : bad_ban n (f ∷ []) ≡ true
  unfolding bad_ban
  one_field = refl

  two_fields : bad_ban n (f ∷ g ∷ []) ≡ true
  unfolding bad_ban
  two_fields = refl

  many_fields : (i : List ℕ) (r : List (List ℕ)) → bad_ban n (f ∷ g ∷ h ∷ i ∷ r) ≡ true
  unfolding bad_ban
  many_fields i r = rw (ne_eqb (length (f ∷ g ∷ h ∷ i ∷ r)) 3 (λ q. omega arith))

  -- three fields, of which one is no number
  wrong_first : is_number n f ≡ false → bad_ban n (f ∷ g ∷ h ∷ []) ≡ true
  unfolding bad_ban every
  wrong_first e = rw e

  wrong_second : is_number n g ≡ false → bad_ban n (f ∷ g ∷ h ∷ []) ≡ true
  unfolding bad_ban every
  wrong_second e = rw (e, and-false)

  wrong_third : is_number n h ≡ false → bad_ban n (f ∷ g ∷ h ∷ []) ≡ true
  unfolding bad_ban every
  wrong_third e = rw (e, and-false, and-false)

  -- three numbers
  three_numbers : is_number n f ≡ true → is_number n g ≡ true → is_number n h ≡ true → bad_ban n (f ∷ g ∷ h ∷ []) ≡ eqb (number_of g) (number_of h)
  unfolding bad_ban every
  three_numbers p q r = rw (p, q, r)

-- a field that is not the last has a comma behind it, and another field behind that
a_comma : (n : ℕ) (s : List ℕ) (from : ℕ) (f : Field) → FieldAt n s from f → f.last ≡ false → get_or s f.end 0 ≡ 44
a_comma n s from f a t = eqb-true (get_or s f.end 0) 44 (not-false (eqb (get_or s f.end 0) 44) (sym a.stands ∙ t))

pub field_next : {n : ℕ} {s : List ℕ} {from : ℕ} {f : Field} → FieldAt n s from f → f.last ≡ false → f.end + 1 ≤ length s
field_next {n} {s} {from} {f} a t = let h = comma_within s f.end (a_comma n s from f a t) in omega arith

-- One field of a clean list.
module _ (n : ℕ) (s : List ℕ) (from : ℕ) (f : Field) (c : Clean (drop from s)) (a : FieldAt n s from f) where
  goes_on : f.last ≡ false → Next (record_fields (drop from s)) (leading (drop from s)) (drop (f.end + 1) s)
  goes_on t = (record_goes_on s from f.end c a.ends (a_comma n s from f a t)).0

  stops : f.last ≡ true
      → (record_fields (drop from s) ≡ (leading (drop from s) ∷ []) ∷ rest_of s (f.end + 2)) × (f.end + 2 ≤ length s → Clean (drop (f.end + 2) s))
  stops t = record_ends s from f.end c a.ends (eqb-false (get_or s f.end 0) 44 (not-true (eqb (get_or s f.end 0) 44) (sym a.stands ∙ t)))

  -- a number that was read, or none
  number_here : {v : ℕ} → f.number ≡ Some v → (is_number n (leading (drop from s)) ≡ true) × (number_of (leading (drop from s)) ≡ v)
  number_here e = number_read n (leading (drop from s)) (sym a.read ∙ e)

  number_none : f.number ≡ None → is_number n (leading (drop from s)) ≡ false
  number_none e = number_wrong n (leading (drop from s)) (sym a.read ∙ e)

-- The record that begins at `from`, in each of the ways that its fields can go.
module _ (n : ℕ) (s : List ℕ) (from : ℕ) (c : Clean (drop from s)) (f : Field) (a : FieldAt n s from f) where
  pub ends_first : f.last ≡ true → any (bad_ban n) (record_fields (drop from s)) ≡ true
  ends_first t = any_first (bad_ban n) (leading (drop from s) ∷ []) (rest_of s (f.end + 2)) (stops n s from f c a t).0 (one_field n (leading (drop from s)) [] [])

  module _ (t : f.last ≡ false) (g : Field) (b : FieldAt n s (f.end + 1) g) where
    first : Next (record_fields (drop from s)) (leading (drop from s)) (drop (f.end + 1) s)
    first = goes_on n s from f c a t

    from_first : (r : List (List ℕ)) (l : List (List (List ℕ))) → record_fields (drop (f.end + 1) s) ≡ r ∷ l → record_fields (drop from s) ≡ (leading (drop from s) ∷ r) ∷ l
    from_first r l = joined (leading (drop from s)) (record_fields (drop (f.end + 1) s)) r l first.same

    pub ends_second : g.last ≡ true → any (bad_ban n) (record_fields (drop from s)) ≡ true
    ends_second u =
        any_first (bad_ban n) (leading (drop from s) ∷ leading (drop (f.end + 1) s) ∷ []) (rest_of s (g.end + 2))
        (from_first (leading (drop (f.end + 1) s) ∷ []) (rest_of s (g.end + 2)) (stops n s (f.end + 1) g first.clean b u).0)
        (two_fields n (leading (drop from s)) (leading (drop (f.end + 1) s)) [])

    module _ (u : g.last ≡ false) (h : Field) (d : FieldAt n s (g.end + 1) h) where
      second : Next (record_fields (drop (f.end + 1) s)) (leading (drop (f.end + 1) s)) (drop (g.end + 1) s)
      second = goes_on n s (f.end + 1) g first.clean b u

      from_second : (r : List (List ℕ)) (l : List (List (List ℕ))) → record_fields (drop (g.end + 1) s) ≡ r ∷ l
          → record_fields (drop from s) ≡ (leading (drop from s) ∷ leading (drop (f.end + 1) s) ∷ r) ∷ l
      from_second r l e =
          from_first (leading (drop (f.end + 1) s) ∷ r) l (joined (leading (drop (f.end + 1) s)) (record_fields (drop (g.end + 1) s)) r l second.same e)

      pub goes_past : not h.last ≡ true → any (bad_ban n) (record_fields (drop from s)) ≡ true
      goes_past v =
          let rest = record_fields (drop (h.end + 1) s) in
          let next = goes_on n s (g.end + 1) h second.clean d (not-true h.last v) in
          any_first (bad_ban n) (leading (drop from s) ∷ leading (drop (f.end + 1) s) ∷ leading (drop (g.end + 1) s) ∷ get_or rest 0 []) (drop 1 rest)
          (from_second (leading (drop (g.end + 1) s) ∷ get_or rest 0 []) (drop 1 rest) next.same)
          (rw (first_field_lem next.clean)
          (many_fields n (leading (drop from s)) (leading (drop (f.end + 1) s)) (leading (drop (g.end + 1) s)) (leading (drop (h.end + 1) s)) (drop 1 (get_or rest 0 []))))

      module _ (v : not h.last ≡ false) where
        abbrev three : List (List ℕ)
        three = leading (drop from s) ∷ leading (drop (f.end + 1) s) ∷ leading (drop (g.end + 1) s) ∷ []

        third : record_fields (drop from s) ≡ three ∷ rest_of s (h.end + 2)
        third = from_second (leading (drop (g.end + 1) s) ∷ []) (rest_of s (h.end + 2)) (stops n s (g.end + 1) h second.clean d (not-false h.last v)).0

        refused : bad_ban n three ≡ true → any (bad_ban n) (record_fields (drop from s)) ≡ true
        refused e = any_first (bad_ban n) three (rest_of s (h.end + 2)) third e

        pub no_first : f.number ≡ None → any (bad_ban n) (record_fields (drop from s)) ≡ true
        no_first e = refused (wrong_first n _ _ _ (number_none n s from f c a e))

        pub no_second : g.number ≡ None → any (bad_ban n) (record_fields (drop from s)) ≡ true
        no_second e = refused (wrong_second n _ _ _ (number_none n s (f.end + 1) g first.clean b e))

        pub no_third : h.number ≡ None → any (bad_ban n) (record_fields (drop from s)) ≡ true
        no_third e = refused (wrong_third n _ _ _ (number_none n s (g.end + 1) h second.clean d e))

        module _ {x y z : ℕ} (p : f.number ≡ Some x) (q : g.number ≡ Some y) (r : h.number ≡ Some z) where
          x_read : (is_number n (leading (drop from s)) ≡ true) × (number_of (leading (drop from s)) ≡ x)
          x_read = number_here n s from f c a p

          y_read : (is_number n (leading (drop (f.end + 1) s)) ≡ true) × (number_of (leading (drop (f.end + 1) s)) ≡ y)
          y_read = number_here n s (f.end + 1) g first.clean b q

          z_read : (is_number n (leading (drop (g.end + 1) s)) ≡ true) × (number_of (leading (drop (g.end + 1) s)) ≡ z)
          z_read = number_here n s (g.end + 1) h second.clean d r

          judged : bad_ban n three ≡ eqb y z
          judged = three_numbers n _ _ _ x_read.0 y_read.0 z_read.0 ∙ rw (y_read.1, z_read.1)

          pub one_twice : y ≡ z → any (bad_ban n) (record_fields (drop from s)) ≡ true
          one_twice e = refused (judged ∙ eq-eqb y z e)

          pub one_ban : (y ≡ z → ⊥) → BanFrom n s from (record { x = x; y = y; z = z; next = h.end + 2 })
          one_ban other =
              record {
                fields = three;
                first = third;
                right = judged ∙ ne_eqb y z other;
                same = rw (x_read.1, y_read.1, z_read.1);
                clean = (stops n s (g.end + 1) h second.clean d (not-false h.last v)).1;
                low_x = rw x_read.1 at (number_below n (leading (drop from s)) x_read.0);
                low_y = rw y_read.1 at (number_below n (leading (drop (f.end + 1) s)) y_read.0);
                low_z = rw z_read.1 at (number_below n (leading (drop (g.end + 1) s)) z_read.0);
                long = omega (arith, a.ends, b.ends, d.ends, number_some n (leading (drop (g.end + 1) s)) z_read.0);
                within = omega (arith, d.within);
              }
