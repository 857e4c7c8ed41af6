-- The tests of a value, joined as the code joins them, say exactly whether it is well-enlarged.
use mathlib.Core.Path.{◌≡◌, refl, sym, ap, ◌∙◌}
use mathlib.Core.Bool.{Bool, true, false, not, ◌&&◌, true≢false, and-eq-true_iff}
use mathlib.Core.List.{List, [], ◌∷◌}
use Prim.Native.Nat.{ℕ, zero, suc, ◌+◌, ◌-◌, ◌≤◌, ◌<◌}
use native.Mathlib.Decide.{dec_lt}
use native.Mathlib.Omega.{arith}
use lib.Dec.{ltb, eqb}
use lib.ListN.{length, get_or}
use borrow.Author.Tests.{eqb-true, eq-eqb}
use Rattle.code.specs.declared.Enlarged.{Enlarged}
use Rattle.code.specs.declared.Limits.{Limits}
use Rattle.code.specs.Definitions.Tables.{no_word, no_row, entry_of, table_of}
use Rattle.code.specs.Definitions.Bans.{Copy, no_copy, is_copy, has_copy, copy_index, copy_at, origin, number_after}
use Rattle.code.specs.Definitions.Enlarged.{copies_in}
use Rattle.code.specs.Laws.Below.{Some}
use Rattle.code.specs.Laws.Lists.{length-tabulate, get_d_tabulate, any-tabulate}
use Rattle.ban_theory.specs.CopyLists.{CopyAt, Once, has_copy_lem, origin_known, next_copy, next_itself, next_stands, copy_index_lem, stands_next}
use Rattle.ban_theory.specs.Enlargements.{Fair}
use Rattle.code.specs.Laws.Exactly.{Exactly, exactly_true, exactly_false, exactly_iff, exactly_and, exactly_not, exactly_same, exactly_lt, exactly_eq}
use Rattle.code.specs.Laws.WellFormed.{WellFormed}
use Rattle.well_enlarged.specs.WellEnlarged.{NumberFits, Numbered, barred, CopyFits, WellEnlarged}
use Rattle.well_enlarged.specs.Numbers.{count_copies, copy_in_lem, all_numbers, number_at, copy_number, origin_number, next_within, numbers_once}
use Rattle.well_enlarged.specs.Tests.{NumbersFit, AtOwnPlace, CopiesFit, EntryFits, MatrixFits}
use Rattle.well_enlarged.proofs.Laws.Plain.{plain_fair}

-- A number

module _ (n count x of behind : ℕ) (most : n ≤ count) where
  pub number_word : x < n → Exactly (eqb of x && eqb behind 0) (NumberFits n count x of behind)
  number_word h =
      exactly_iff (
        (λ p. record {
          of_word = λ i. p.0;
          of_copy = λ i j. absurd (omega arith);
          of_past = λ i. absurd (omega arith);
          behind_word = λ i. p.1;
          behind_copy = λ i j. absurd (omega arith);
          behind_past = λ i. p.1;
          apart = λ i j. absurd (omega arith);
        }),
        (λ f. (f.of_word h, f.behind_word h)),
      )
      (exactly_and (exactly_eq of x) (exactly_eq behind 0))

  pub number_copy : n ≤ x → x < count → Exactly (ltb of n && ltb behind n && not (eqb behind of)) (NumberFits n count x of behind)
  number_copy h k =
      exactly_iff (
        (λ p. record {
          of_word = λ i. absurd (omega arith);
          of_copy = λ i j. p.0.0;
          of_past = λ i. absurd (omega arith);
          behind_word = λ i. absurd (omega arith);
          behind_copy = λ i j. p.0.1;
          behind_past = λ i. absurd (omega arith);
          apart = λ i j. p.1;
        }),
        (λ f. ((f.of_copy h k, f.behind_copy h k), f.apart h k)),
      )
      (exactly_and (exactly_and (exactly_lt of n) (exactly_lt behind n)) (exactly_not (exactly_eq behind of)))

  pub number_past : count ≤ x → Exactly (eqb of 0 && eqb behind 0) (NumberFits n count x of behind)
  number_past h =
      exactly_iff (
        (λ p. record {
          of_word = λ i. absurd (omega arith);
          of_copy = λ i j. absurd (omega arith);
          of_past = λ i. p.0;
          behind_word = λ i. p.1;
          behind_copy = λ i j. absurd (omega arith);
          behind_past = λ i. p.1;
          apart = λ i j. absurd (omega arith);
        }),
        (λ f. (f.of_past h, f.behind_past h)),
      )
      (exactly_and (exactly_eq of 0) (exactly_eq behind 0))

-- All numbers

module _ {l : Limits} {e : Enlarged} where
  pub none_original : e.originals < 1 → Exactly false (Numbered l e)
  none_original h = exactly_false (λ v. omega (arith, v.one))

  pub few_words : e.code.count < e.originals → Exactly false (Numbered l e)
  few_words h = exactly_false (λ v. omega (arith, v.most))

  pub bounded : {t : Bool} → 1 ≤ e.originals → e.originals ≤ e.code.count → e.code.count ≤ l.words → length e.origins ≡ l.words → length e.behind ≡ l.words
      → Exactly t (NumbersFit l e) → Exactly t (Numbered l e)
  bounded h k room origins behind =
      exactly_iff ((λ f. record { one = h; most = k; room = room; origins = origins; behind = behind; number = f }), (λ v. v.number))

-- The number of a word after another

-- The first copy of z after y is the one that is looked for.
first_index : (y z : ℕ) (cs : List Copy) (i : ℕ) → i < length cs → is_copy y z (get_or cs i no_copy) ≡ true
    → ((k : ℕ) → k < i → is_copy y z (get_or cs k no_copy) ≡ false) → copy_index cs y z ≡ i
unfolding copy_index
first_index y z [] i h here before = absurd (omega arith)
first_index y z (c ∷ cs) zero h here before = rw here
first_index y z (c ∷ cs) (suc i) h here before =
    rw (before 0 (omega arith)) (ap suc (first_index y z cs i (omega arith) here (λ k l. before (suc k) (omega arith))))

module _ (e : Enlarged) (y x : ℕ) where
  -- number i, as a copy
  abbrev number_of : ℕ → Copy
  number_of i = record { behind = get_or e.behind i 0; of = get_or e.origins i 0 }

  -- Number i is the copy of x after y.
  abbrev pub Stands : ℕ → Type 0
  Stands i = (get_or e.behind i 0 ≡ y) × (get_or e.origins i 0 ≡ x)

  stands_copy : (i : ℕ) → Stands i → is_copy y x (number_of i) ≡ true
  stands_copy i s = (and-eq-true_iff (eqb (get_or e.behind i 0) y) (eqb (get_or e.origins i 0) x)).1 (eq-eqb _ _ s.0, eq-eqb _ _ s.1)

  other_copy : (i : ℕ) → (Stands i → ⊥) → (t : Bool) → is_copy y x (number_of i) ≡ t → t ≡ false
  other_copy i other false is = refl
  other_copy i other true is =
      let a = (and-eq-true_iff (eqb (get_or e.behind i 0) y) (eqb (get_or e.origins i 0) x)).0 is in
      absurd (other (eqb-true _ _ a.0, eqb-true _ _ a.1))

  copy_there : (i : ℕ) → e.originals ≤ i → i < e.code.count → get_or (copies_in e) (i - e.originals) no_copy ≡ number_of i
  copy_there i h k =
      let at : e.originals + (i - e.originals) ≡ i = omega arith in
      get_d_tabulate (λ j. number_of (e.originals + j)) (e.code.count - e.originals) (i - e.originals) no_copy (omega arith) ∙ rw at

  pub next_found : (i : ℕ) → e.originals ≤ i → i < e.code.count → Stands i → ((k : ℕ) → e.originals ≤ k → k < i → Stands k → ⊥)
      → i ≡ number_after e.originals (copies_in e) y x
  next_found i h k here before =
      let n = e.originals in
      let cs = copies_in e in
      let long = length-tabulate (λ j. number_of (n + j)) (e.code.count - n) in
      let at : is_copy y x (get_or cs (i - n) no_copy) ≡ true = rw (copy_there i h k) (stands_copy i here) in
      let index = first_index y x cs (i - n) (omega arith) at (λ j l.
      let back : n + j - n ≡ j = omega arith in
      let there : get_or cs j no_copy ≡ number_of (n + j) = rw back at (copy_there (n + j) (omega arith) (omega arith)) in
      rw there (other_copy (n + j) (before (n + j) (omega arith) (omega arith)) _ refl)) in
      let has = is_copy_lem cs (i - n) (omega arith) at in
      sym (next_copy n cs y x has ∙ omega arith)
    where
      is_copy_lem : (cs : List Copy) (j : ℕ) → j < length cs → is_copy y x (get_or cs j no_copy) ≡ true → has_copy cs y x ≡ true
      is_copy_lem cs j l is =
          let a = (and-eq-true_iff (eqb (get_or cs j no_copy).behind y) (eqb (get_or cs j no_copy).of x)).0 is in
          has_copy_lem (record { below = l; behind = eqb-true _ _ a.0; of = eqb-true _ _ a.1 })

  pub next_none : ((k : ℕ) → e.originals ≤ k → k < e.code.count → Stands k → ⊥) → x ≡ number_after e.originals (copies_in e) y x
  unfolding has_copy
  next_none none =
      let n = e.originals in
      sym (next_itself n (copies_in e) y x
      (any-tabulate (is_copy y x) (λ j. number_of (n + j)) (e.code.count - n) (λ j l. other_copy (n + j) (none (n + j) (omega arith) (omega arith)) _ refl)))

-- A copy

module _ (e : Enlarged) (x : ℕ) where
  -- A word may not come behind a copy where its number there has no 1.
  pub barred_entry : (w : ℕ) {next of : ℕ} {t : Bool} → of ≡ get_or e.origins x 0 → next ≡ number_after e.originals (copies_in e) of w → Exactly t (entry_of e.code next x ≡ 1)
      → barred e x w ≡ not t
  barred_entry w {next} p q one =
      let same = exactly_same (exactly_eq (entry_of e.code next x) 1) one in
      sym (ap not (sym same) ∙ rw (q, p))

  pub ban_found : (w : ℕ) → w < e.originals → barred e x w ≡ true → Exactly true (Some (barred e x) e.originals)
  ban_found w h k = exactly_true (record { x = w; below = h; passes = k })

  pub ban_none : ((w : ℕ) → w < e.originals → barred e x w ≡ false) → Exactly false (Some (barred e x) e.originals)
  ban_none none = exactly_false (λ s. true≢false (sym s.passes ∙ none s.x s.below))

  pub copy_tested : {place mark : ℕ} {t b : Bool} → place ≡ number_after e.originals (copies_in e) (get_or e.behind x 0) (get_or e.origins x 0) → mark ≡ get_or e.code.begins x 0
      → Exactly t (get_or e.code.words x no_word ≡ get_or e.code.words (get_or e.origins x 0) no_word) → Exactly b (Some (barred e x) e.originals)
      → Exactly (eqb place x && t && eqb mark 0 && b) (AtOwnPlace e x × CopyFits e x)
  copy_tested {place} {mark} p m word ban =
      exactly_iff (
        (λ q. (sym p ∙ q.0.0.0, record { word = q.0.0.1; mark = sym m ∙ q.0.1; ban = q.1 })),
        (λ q. (((p ∙ q.0, q.1.word), m ∙ q.1.mark), q.1.ban)),
      )
      (exactly_and (exactly_and (exactly_and (exactly_eq place x) word) (exactly_eq mark 0)) ban)

-- An entry

module _ (e : Enlarged) (x y : ℕ) where
  abbrev row : List ℕ
  row = (get_or e.code.rows x no_row).entries

  pub entry_zero : (get_or row y 0 ≡ 1 → ⊥) → Exactly true (EntryFits e x y)
  entry_zero none = exactly_true (record { base = λ i. absurd (none i); only = λ i. absurd (none i) })

  pub entry_one : {next : ℕ} {t : Bool} → get_or row y 0 ≡ 1 → Exactly t (get_or row (get_or e.origins y 0) 0 ≡ 1)
      → next ≡ number_after e.originals (copies_in e) (get_or e.origins y 0) (get_or e.origins x 0) → Exactly (t && eqb next x) (EntryFits e x y)
  entry_one {next} one base p =
      exactly_iff (
        (λ q. record { base = λ i. q.0; only = λ i. sym p ∙ q.1 }),
        (λ f. (f.base one, p ∙ f.only one)),
      )
      (exactly_and base (exactly_eq next x))

-- The whole value

module _ {l : Limits} {e : Enlarged} (v : Numbered l e) where
  known_case : (y : ℕ) → Dec (y < e.originals) → Dec (y < e.code.count) → get_or e.origins y 0 < l.words
  known_case y (yes h) k = omega (arith, (number_at v y).of_word h, v.most, v.room)
  known_case y (no h) (yes k) = omega (arith, (number_at v y).of_copy (omega arith) k, v.most, v.room)
  known_case y (no h) (no k) = omega (arith, (number_at v y).of_past (omega arith), v.one, v.most, v.room)

  pub known : (y : ℕ) → get_or e.origins y 0 < l.words
  known y = known_case y (dec_lt y e.originals) (dec_lt y e.code.count)

  pub next_low : (y x : ℕ) {next : ℕ} → next ≡ number_after e.originals (copies_in e) y x → x < e.originals → next < l.words
  next_low y x p h = omega (arith, next_within v y x h, v.room)

  -- Copies that stand at their own places are each there once,
  placed : ((x : ℕ) → x < e.code.count → e.originals ≤ x → AtOwnPlace e x) → (y z i : ℕ) → CopyAt (copies_in e) y z i
      → number_after e.originals (copies_in e) y z ≡ e.originals + i
  placed at y z i c =
      let copy = copy_in_lem e i c.below in
      let behind : get_or e.behind (e.originals + i) 0 ≡ y = ap (λ (d : Copy). d.behind) (sym copy) ∙ c.behind in
      let of : get_or e.origins (e.originals + i) 0 ≡ z = ap (λ (d : Copy). d.of) (sym copy) ∙ c.of in
      rw (behind, of) at (at (e.originals + i) (omega (arith, all_numbers v, c.below)) (omega arith))

  placed_once : ((x : ℕ) → x < e.code.count → e.originals ≤ x → AtOwnPlace e x)
      → (y z i j : ℕ) → CopyAt (copies_in e) y z i → CopyAt (copies_in e) y z j → i ≡ j
  placed_once at y z i j a b = omega (arith, placed at y z i a, placed at y z j b)

  -- and the other way round.
  once_placed : Once e.originals (copies_in e) → (x : ℕ) → x < e.code.count → e.originals ≤ x → AtOwnPlace e x
  once_placed once x h k =
      let at = copy_index_lem e.originals (copies_in e) once x (omega (arith, all_numbers v)) k in
      rw (copy_number v x k, origin_number v x) at (next_copy e.originals (copies_in e) (copy_at e.originals (copies_in e) x).behind (origin e.originals (copies_in e) x) at.0 ∙ at.1)

  -- The matrix

  module _ (once : Once e.originals (copies_in e)) where
    fits_fair : MatrixFits e → Fair e.originals (copies_in e) (table_of e.code).follow
    fits_fair fits = record {
      only = λ x y h k f.
          let all = all_numbers v in
          let known = origin_known e.originals (copies_in e) once x h in
          let next = rw (← origin_number v x, ← origin_number v y) at ((fits x (omega arith) y (omega arith)).only (eqb-true (entry_of e.code x y) 1 f)) in
          rw next at (next_stands e.originals (copies_in e) (origin e.originals (copies_in e) y) (origin e.originals (copies_in e) x) known);
      base = λ x y h k f.
          let all = all_numbers v in
          rw (origin_number v y) (eq-eqb (entry_of e.code x (get_or e.origins y 0)) 1 ((fits x (omega arith) y (omega arith)).base (eqb-true (entry_of e.code x y) 1 f)));
    }

    fair_fits : Fair e.originals (copies_in e) (table_of e.code).follow → MatrixFits e
    fair_fits fair x h y k =
        let all = all_numbers v in
        record {
          base = λ one.
              eqb-true (entry_of e.code x (get_or e.origins y 0)) 1 (rw (origin_number v y) at (fair.base x y (omega arith) (omega arith) (eq-eqb (entry_of e.code x y) 1 one)));
          only = λ one.
              let stands = fair.only x y (omega arith) (omega arith) (eq-eqb (entry_of e.code x y) 1 one) in
              rw (← origin_number v x, ← origin_number v y) (sym (stands_next e.originals (copies_in e) once x (origin e.originals (copies_in e) y) (omega arith) stands));
        }

  -- A value of a well-formed code and fitting numbers is well-enlarged where it has no copies,
  pub none_tested : WellFormed l e.code → e.originals ≡ e.code.count → Exactly true (WellEnlarged l e)
  none_tested code same =
      exactly_true (record {
        code = code;
        numbers = v;
        once = λ y z i j a b. absurd (omega (arith, a.below, count_copies e));
        copy = λ x h k. absurd (omega arith);
        fair = plain_fair e same;
      })

  -- and else where its copies and its matrix fit.
  pub value_tested : WellFormed l e.code → {a b : Bool} → Exactly a (CopiesFit e) → Exactly b (MatrixFits e) → Exactly (a && b) (WellEnlarged l e)
  value_tested code copies matrix =
      exactly_iff (
        (λ p.
            let once = placed_once (λ x h k. (p.0 x k h).0) in
            record { code = code; numbers = v; once = once; copy = λ x h k. (p.0 x h k).1; fair = fits_fair (numbers_once v once) p.1 }),
        (λ w.
            let once = numbers_once v w.once in
            ((λ x h k. (once_placed once x k h, w.copy x h k)), fair_fits once w.fair)),
      )
      (exactly_and copies matrix)

-- A value of another code or of other numbers is not.
module _ {l : Limits} {e : Enlarged} where
  pub not_code : (WellFormed l e.code → ⊥) → Exactly false (WellEnlarged l e)
  not_code n = exactly_false (λ w. n w.code)

  pub not_numbered : (Numbered l e → ⊥) → Exactly false (WellEnlarged l e)
  not_numbered n = exactly_false (λ w. n w.numbers)
