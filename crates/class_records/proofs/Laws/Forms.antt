-- A record of a class sheet by its fields: their digits, and the byte behind each, tell whether it is malformed. One lemma for each way that the tests go.
use Rattle.std.specs.Prelude.{if◌then◌else◌}
use mathlib.Core.Path.{◌≡◌, refl, sym, ◌∙◌}
use mathlib.Core.Bool.{Bool, true, false, not, ◌&&◌, true≢false, and-true}
use mathlib.Core.List.{List, [], ◌∷◌}
use Prim.Native.Nat.{ℕ, ◌+◌, ◌-◌, ◌≤◌, ◌<◌}
use native.Mathlib.Omega.{arith}
use lib.Dec.{eqb}
use lib.ListN.{length, drop, get_or}
use borrow.Author.Tests.{eqb-true, eqb-false, not-true, not-false}
use Rattle.code.specs.Definitions.ClassSheets.{symbol_of, byte_of, digits, malformed}
use Rattle.code.specs.Definitions.Lists.{any, every}
use Rattle.code.specs.Definitions.Sheets.{is_digit}
use Rattle.code.specs.Definitions.Texts.{other}
use Rattle.code.specs.Laws.Clean.{Clean, record_fields}
use Rattle.csv_records.specs.Fields.{leading}
use Rattle.csv_records.specs.Front.{Next, rest_of, first_field_lem, joined, any_first, record_goes_on, record_ends}
use Rattle.class_records.specs.Ensured.{SevenBytes, Formed, RangeFrom}
use Rattle.class_records.proofs.Laws.Values.{digits_many, symbol_digit}

-- What stands in a field are digits, so only their number counts.
leading_digits : (t : List ℕ) → every is_digit (leading t) ≡ true
unfolding leading every
leading_digits [] = refl
leading_digits (a ∷ t) = by_digit (is_digit a) refl (leading_digits t)
  where
    by_digit : (b : Bool) → is_digit a ≡ b → every is_digit (leading t) ≡ true → every is_digit (if b then a ∷ leading t else []) ≡ true
    by_digit true e h = rw (e, h)
    by_digit false e h = refl

pub digits_counted : (s : List ℕ) (from n : ℕ) {e : ℕ} → e ≡ from + length (leading (drop from s)) → eqb (e - from) n ≡ digits n (leading (drop from s))
digits_counted s from n {e} q = let k : e - from ≡ length (leading (drop from s)) = omega arith in rw (k, leading_digits (drop from s), and-true)

-- A record that is not three fields of two digits, two and one
malformed_unless : (r : List (List ℕ)) → (length r ≡ 3 → digits 2 (get_or r 0 []) ≡ true → digits 2 (get_or r 1 []) ≡ true → digits 1 (get_or r 2 []) ≡ true → ⊥)
    → malformed r ≡ true
unfolding malformed
malformed_unless r never =
    fails (eqb (length r) 3) (digits 2 (get_or r 0 [])) (digits 2 (get_or r 1 [])) (digits 1 (get_or r 2 [])) (λ a. never (eqb-true (length r) 3 a))
  where
    fails : (a b c d : Bool) → (a ≡ true → b ≡ true → c ≡ true → d ≡ true → ⊥) → not (a && b && c && d) ≡ true
    fails true true true true n = absurd (n refl refl refl refl)
    fails true true true false n = refl
    fails true true false d n = refl
    fails true false c d n = refl
    fails false b c d n = refl

three_formed : (f g h : List ℕ) → digits 2 f ≡ true → digits 2 g ≡ true → digits 1 h ≡ true → malformed (f ∷ g ∷ h ∷ []) ≡ false
unfolding malformed
three_formed f g h p q r = rw (p, q, r)

formed_not : {s : List ℕ} {from : ℕ} → any malformed (record_fields (drop from s)) ≡ true → Formed s from false
formed_not e = record { yes = λ t. absurd (true≢false (sym t)); no = λ t. e }

-- One field of n digits that begins at `from` and ends at e: where the record goes on, and where it ends.
module _ (s : List ℕ) (from n e : ℕ) (c : Clean (drop from s)) (d : digits n (leading (drop from s)) ≡ true) (is : e ≡ from + n) where
  ends : e ≡ from + length (leading (drop from s))
  ends = let k = digits_many n (leading (drop from s)) d in omega arith

  goes_on : (k : ℕ) → k ≡ e + 1 → get_or s e 0 ≡ 44 → Next (record_fields (drop from s)) (leading (drop from s)) (drop k s)
  goes_on k q h = rw q (record_goes_on s from e c ends h).0

  stops : (k : ℕ) → k ≡ e + 2 → (get_or s e 0 ≡ 44 → ⊥)
      → (record_fields (drop from s) ≡ (leading (drop from s) ∷ []) ∷ rest_of s k) × (k ≤ length s → Clean (drop k s))
  stops k q h = rw q (record_ends s from e c ends h)

-- The record that begins at `from`, by its fields f, g and h.
module _ (s : List ℕ) (from : ℕ) (c : Clean (drop from s)) {t : Bool} (first : t ≡ digits 2 (leading (drop from s))) where
  abbrev f : List ℕ
  f = leading (drop from s)

  pub lowest_wrong : t ≡ false → Formed s from false
  lowest_wrong n =
      formed_not (any_first malformed (f ∷ drop 1 (get_or (record_fields (drop from s)) 0 [])) (drop 1 (record_fields (drop from s))) (first_field_lem c)
      (malformed_unless (f ∷ drop 1 (get_or (record_fields (drop from s)) 0 [])) (λ l p q r. true≢false (sym p ∙ sym first ∙ n))))

  module _ (yes-1 : t ≡ true) {b : ℕ} (behind : b ≡ get_or s (from + 2) 0) where
    d_1 : digits 2 f ≡ true
    d_1 = sym first ∙ yes-1

    pub lowest_only : (b ≡ 44 → ⊥) → Formed s from false
    lowest_only n =
        formed_not (any_first malformed (f ∷ []) (rest_of s (from + 4)) (stops s from 2 (from + 2) c d_1 refl (from + 4) (omega arith) (λ h. n (behind ∙ h))).0
        (malformed_unless (f ∷ []) (λ l p q r. omega arith)))

    module _ (comma-1 : b ≡ 44) where
      next_1 : Next (record_fields (drop from s)) f (drop (from + 3) s)
      next_1 = goes_on s from 2 (from + 2) c d_1 refl (from + 3) (omega arith) (sym behind ∙ comma-1)

      abbrev g : List ℕ
      g = leading (drop (from + 3) s)

      from_1 : (r : List (List ℕ)) (l : List (List (List ℕ))) → record_fields (drop (from + 3) s) ≡ r ∷ l → record_fields (drop from s) ≡ (f ∷ r) ∷ l
      from_1 r l = joined f (record_fields (drop (from + 3) s)) r l next_1.same

      module _ {u : Bool} (second : u ≡ digits 2 g) where
        pub highest_wrong : u ≡ false → Formed s from false
        highest_wrong n =
            let r = drop 1 (get_or (record_fields (drop (from + 3) s)) 0 []) in
            formed_not (any_first malformed (f ∷ g ∷ r) (drop 1 (record_fields (drop (from + 3) s))) (from_1 (g ∷ r) (drop 1 (record_fields (drop (from + 3) s))) (first_field_lem next_1.clean))
            (malformed_unless (f ∷ g ∷ r) (λ l p q z. true≢false (sym q ∙ sym second ∙ n))))

        module _ (yes-2 : u ≡ true) {a : ℕ} (behind-2 : a ≡ get_or s (from + 5) 0) where
          d_2 : digits 2 g ≡ true
          d_2 = sym second ∙ yes-2

          pub highest_last : (a ≡ 44 → ⊥) → Formed s from false
          highest_last n =
              formed_not (any_first malformed (f ∷ g ∷ []) (rest_of s (from + 7))
              (from_1 (g ∷ []) (rest_of s (from + 7)) (stops s (from + 3) 2 (from + 5) next_1.clean d_2 (omega arith) (from + 7) (omega arith) (λ h. n (behind-2 ∙ h))).0)
              (malformed_unless (f ∷ g ∷ []) (λ l p q r. omega arith)))

          module _ (comma-2 : a ≡ 44) where
            next_2 : Next (record_fields (drop (from + 3) s)) g (drop (from + 6) s)
            next_2 = goes_on s (from + 3) 2 (from + 5) next_1.clean d_2 (omega arith) (from + 6) (omega arith) (sym behind-2 ∙ comma-2)

            abbrev h : List ℕ
            h = leading (drop (from + 6) s)

            from_2 : (r : List (List ℕ)) (l : List (List (List ℕ))) → record_fields (drop (from + 6) s) ≡ r ∷ l → record_fields (drop from s) ≡ (f ∷ g ∷ r) ∷ l
            from_2 r l e = from_1 (g ∷ r) l (joined g (record_fields (drop (from + 6) s)) r l next_2.same e)

            module _ {v : Bool} (third : v ≡ digits 1 h) where
              pub symbol_wrong : v ≡ false → Formed s from false
              symbol_wrong n =
                  let r = drop 1 (get_or (record_fields (drop (from + 6) s)) 0 []) in
                  formed_not (any_first malformed (f ∷ g ∷ h ∷ r) (drop 1 (record_fields (drop (from + 6) s))) (from_2 (h ∷ r) (drop 1 (record_fields (drop (from + 6) s))) (first_field_lem next_2.clean))
                  (malformed_unless (f ∷ g ∷ h ∷ r) (λ l p q z. true≢false (sym z ∙ sym third ∙ n))))

              -- The byte behind the symbol decides: a comma, and the record has a fourth field; else it is a range.
              module _ (yes-3 : v ≡ true) {z : ℕ} (behind-3 : z ≡ get_or s (from + 7) 0) where
                d_3 : digits 1 h ≡ true
                d_3 = sym third ∙ yes-3

                fourth : get_or s (from + 7) 0 ≡ 44 → any malformed (record_fields (drop from s)) ≡ true
                fourth k =
                    let next = goes_on s (from + 6) 1 (from + 7) next_2.clean d_3 (omega arith) (from + 8) (omega arith) k in
                    let rest = record_fields (drop (from + 8) s) in
                    let r = leading (drop (from + 8) s) ∷ drop 1 (get_or rest 0 []) in
                    any_first malformed (f ∷ g ∷ h ∷ r) (drop 1 rest)
                    (from_2 (h ∷ r) (drop 1 rest) (joined h rest r (drop 1 rest) next.same (first_field_lem next.clean)))
                    (malformed_unless (f ∷ g ∷ h ∷ r) (λ l p q y. omega arith))

                seven : (get_or s (from + 7) 0 ≡ 44 → ⊥) → SevenBytes s from
                seven k =
                    let last = stops s (from + 6) 1 (from + 7) next_2.clean d_3 (omega arith) (from + 9) (omega arith) k in
                    record {
                      lowest = d_1;
                      highest = d_2;
                      symbol = d_3;
                      first = from_2 (h ∷ []) (rest_of s (from + 9)) last.0;
                      clean = last.1;
                      within = omega (arith, (symbol_digit s (from + 6) d_3).within);
                    }

                pub last_byte : Formed s from (not (eqb z 44))
                last_byte = record {
                  yes = λ e. seven (λ k. eqb-false z 44 (not-true (eqb z 44) e) (behind-3 ∙ k));
                  no = λ e. fourth (sym behind-3 ∙ eqb-true z 44 (not-false (eqb z 44) e));
                }

-- The six tests in turn.
module _ (s : List ℕ) (from : ℕ) (c : Clean (drop from s)) where
  abbrev field_has : ℕ → ℕ → Bool
  field_has k n = digits n (leading (drop (from + k) s))

  abbrev comma_at : ℕ → Bool
  comma_at k = eqb (get_or s (from + k) 0) 44

  abbrev pub six_tests : Bool
  six_tests = (((((digits 2 (leading (drop from s)) && comma_at 2) && field_has 3 2) && comma_at 5) && field_has 6 1) && not (comma_at 7))

  by_tests : (t b u a v : Bool) → digits 2 (leading (drop from s)) ≡ t → comma_at 2 ≡ b → field_has 3 2 ≡ u → comma_at 5 ≡ a → field_has 6 1 ≡ v
      → Formed s from (((((t && b) && u) && a) && v) && not (comma_at 7))
  by_tests false b u a v p q r x y = lowest_wrong s from c refl p
  by_tests true false u a v p q r x y = lowest_only s from c (sym p) refl refl (eqb-false (get_or s (from + 2) 0) 44 q)
  by_tests true true false a v p q r x y = highest_wrong s from c (sym p) refl refl (eqb-true (get_or s (from + 2) 0) 44 q) refl r
  by_tests true true true false v p q r x y =
      highest_last s from c (sym p) refl refl (eqb-true (get_or s (from + 2) 0) 44 q) (sym r) refl refl (eqb-false (get_or s (from + 5) 0) 44 x)
  by_tests true true true true false p q r x y =
      symbol_wrong s from c (sym p) refl refl (eqb-true (get_or s (from + 2) 0) 44 q) (sym r) refl refl (eqb-true (get_or s (from + 5) 0) 44 x) refl y
  by_tests true true true true true p q r x y =
      last_byte s from c (sym p) refl refl (eqb-true (get_or s (from + 2) 0) 44 q) (sym r) refl refl (eqb-true (get_or s (from + 5) 0) 44 x) (sym y) refl refl

  pub formed_tests : (r : Bool) → r ≡ six_tests → Formed s from r
  formed_tests r e =
      rw e (by_tests (digits 2 (leading (drop from s))) (comma_at 2) (field_has 3 2) (comma_at 5) (field_has 6 1) refl refl refl refl refl)

-- A record that is formed, with what its fields stand for
pub range_read : {s : List ℕ} {from lowest highest symbol : ℕ} → SevenBytes s from → lowest ≡ byte_of (leading (drop from s))
    → highest ≡ byte_of (leading (drop (from + 3) s)) → (symbol ≡ symbol_of (leading (drop (from + 6) s))) × (symbol < other)
    → RangeFrom s from (record { lowest = lowest; highest = highest; symbol = symbol; next = from + 9 })
range_read {s} {from} b p q z = record {
  fields = leading (drop from s) ∷ leading (drop (from + 3) s) ∷ leading (drop (from + 6) s) ∷ [];
  first = b.first;
  right = three_formed (leading (drop from s)) (leading (drop (from + 3) s)) (leading (drop (from + 6) s)) b.lowest b.highest b.symbol;
  same = rw (p, q, z.0);
  clean = b.clean;
  letter = z.1;
  long = omega arith;
  within = omega (arith, b.within);
}
