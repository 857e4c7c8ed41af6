-- What is known of a class sheet after some of its records: joined with the records to come, it is what the whole sheet says.
use Rattle.std.specs.Prelude.{if◌then◌else◌, Err, Result}
use mathlib.Core.Path.{◌≡◌, refl, sym, ap, subst, ◌∙◌}
use mathlib.Core.Bool.{Bool, true, false, ◌||◌, or_assoc, or-false}
use mathlib.Core.List.{List, [], ◌∷◌}
use Prim.Native.Nat.{ℕ, ◌+◌, ◌<◌}
use native.Mathlib.Omega.{arith}
use lib.Dec.{ltb}
use lib.ListN.{length, replicate, length-replicate, get_or-replicate}
use Rattle.code.specs.declared.Refusal.TheVariants.{ClassRecord, ClassRange, ClassOverlap}
use Rattle.code.specs.declared.Refusal.{Refusal}
use Rattle.code.specs.Definitions.ClassSheets.{Range, range_of, malformed, takes_sign, refused19, different_bytes, all_bytes, takers, refused20, class_by, classes_of}
use Rattle.code.specs.Definitions.Lists.{any}
use Rattle.code.specs.Definitions.Texts.{other, class_of, is_letter, signs}
use Rattle.code.specs.Laws.Lists.{any-tabulate, any_alike, tabulate_list}
use Rattle.class_sheet.specs.Filling.{from_to, FilledBy}
use Rattle.class_sheet.specs.Records.{ranges_in, bad_records, taken_records, judged, Answers, refused, accepted}
use Rattle.class_sheet.proofs.Laws.Counting.{seen, twice_next, class_next, others_next}

-- Of the records `whole`, those of `rest` are to come: c has the classes so far, and it is known whether a range was upside down and whether two took in a byte.
pub record Sofar (whole rest : List (List (List ℕ))) (c : List ℕ) (upside twice : Bool) : Type 0 where
  pub bad : bad_records rest ≡ bad_records whole
  pub down : upside || refused19 (ranges_in rest) ≡ refused19 (ranges_in whole)
  pub met : twice || any (λ b. ltb 1 (seen c b + takers b (ranges_in rest))) all_bytes ≡ refused20 (ranges_in whole)
  pub class : (b : ℕ) → b < different_bytes → (if is_letter c b then class_of c b else class_by (ranges_in rest) b) ≡ class_by (ranges_in whole) b
  pub others : (b : ℕ) → b < different_bytes → is_letter c b ≡ false → class_of c b ≡ other
  pub long : length c ≡ different_bytes

-- No record was met, and no byte is a letter.
pub sofar_none : (g : List (List (List ℕ))) {c : List ℕ} → c ≡ replicate different_bytes other → Sofar g g c false false
unfolding refused20 all_bytes
sofar_none g {c} e =
    let none : (b : ℕ) → b < different_bytes → class_of c b ≡ other = λ b h. rw e (get_or-replicate different_bytes b other 0 h) in
    let no_letter : (b : ℕ) → b < different_bytes → is_letter c b ≡ false = λ b h. rw (none b h) in
    record {
      bad = refl;
      down = refl;
      met = any_alike (λ b. ltb 1 (seen c b + takers b (ranges_in g))) (λ b. ltb 1 (takers b (ranges_in g))) (λ b. b) different_bytes
          (λ b h. let k : 0 + takers b (ranges_in g) ≡ takers b (ranges_in g) = omega arith in rw (no_letter b h, k));
      class = λ b h. rw (no_letter b h);
      others = λ b h n. none b h;
      long = rw e (length-replicate different_bytes other);
    }

-- One record more
module _ {whole g : List (List (List ℕ))} {f : List (List ℕ)} {c : List ℕ} {upside twice : Bool} (s : Sofar whole (f ∷ g) c upside twice) (low high symbol : ℕ)
    (is : range_of f ≡ record { lowest = low; highest = high; symbol = symbol }) where
  abbrev takes : Bool
  takes = any (from_to low high) signs

  sign_tested : takes_sign (range_of f) ≡ takes
  unfolding takes_sign
  sign_tested = ap takes_sign is

  pub sofar_sign : takes ≡ true → bad_records whole ≡ true
  unfolding any
  sofar_sign e = sym s.bad ∙ rw (sign_tested, e) (last (malformed f || any malformed g))
    where
      last : (a : Bool) → (a || true) ≡ true
      last true = refl
      last false = refl

  pub sofar_next : malformed f ≡ false → takes ≡ false → symbol < other → {d : List ℕ} {m : Bool} → FilledBy (from_to low high) symbol c d m
      → Sofar whole g d (upside || ltb high low) (twice || m)
  unfolding any refused19
  sofar_next right free small {d} {m} filled =
      let down = subst (λ (r : Range). upside || refused19 (r ∷ ranges_in g) ≡ refused19 (ranges_in whole)) is s.down in
      let met = rw is at s.met in
      let class = rw is at s.class in
      record {
        bad = sym (rw (right, sign_tested, free)) ∙ s.bad;
        down = or_assoc upside (ltb high low) (refused19 (ranges_in g)) ∙ down;
        met = twice_next low high symbol filled small (ranges_in g) twice ∙ met;
        class = λ b h. class_next low high symbol filled small (ranges_in g) b h ∙ class b h;
        others = λ b h. others_next low high symbol filled small (ranges_in g) b h (s.others b h);
        long = filled.long;
      }

-- No record is left: a byte is a letter by one record at most.
module _ {whole : List (List (List ℕ))} {c : List ℕ} {upside twice : Bool} (s : Sofar whole [] c upside twice) where
  once : any (λ b. ltb 1 (seen c b + takers b [])) all_bytes ≡ false
  unfolding all_bytes takers
  once = any-tabulate (λ b. ltb 1 (seen c b + 0)) (λ b. b) different_bytes (λ b h. by_test (is_letter c b))
    where
      by_test : (t : Bool) → ltb 1 ((if t then 1 else 0) + 0) ≡ false
      by_test true = refl
      by_test false = refl

  is_twice : refused20 (ranges_in whole) ≡ twice
  is_twice = sym s.met ∙ rw (once, or-false)

  is_upside : refused19 (ranges_in whole) ≡ upside
  unfolding any refused19
  is_upside = sym s.down ∙ or-false upside

  is_classes : classes_of (ranges_in whole) ≡ record { entries = c }
  unfolding classes_of class_by
  is_classes =
      ap (λ (l : List ℕ). record { entries = l })
      (tabulate_list (class_by (ranges_in whole)) different_bytes c 0 s.long (λ b h. sym (s.class b h) ∙ by_test b h (is_letter c b) refl))
    where
      by_test : (b : ℕ) → b < different_bytes → (t : Bool) → is_letter c b ≡ t → (if t then class_of c b else other) ≡ class_of c b
      by_test b h true e = refl
      by_test b h false e = sym (s.others b h e)

  pub sofar_ends : {a : Result Unit Refusal} → a ≡ judged false upside twice → Answers whole c a
  unfolding taken_records any
  sofar_ends e = rw e (by_flags upside twice is_upside is_twice)
    where
      by_flags : (u t : Bool) → refused19 (ranges_in whole) ≡ u → refused20 (ranges_in whole) ≡ t → Answers whole c (judged false u t)
      by_flags true t p q = refused {r = ClassRange} (rw (← s.bad, p))
      by_flags false true p q = refused {r = ClassOverlap} (rw (← s.bad, p, q))
      by_flags false false p q = accepted (rw (← s.bad, p, q, is_classes))

-- A record is malformed, or takes in a sign.
pub refused_18 : (g : List (List (List ℕ))) {c : List ℕ} → bad_records g ≡ true → {a : Result Unit Refusal} → a ≡ Err ClassRecord → Answers g c a
unfolding taken_records
refused_18 g bad e = rw e (refused {r = ClassRecord} (rw bad))
