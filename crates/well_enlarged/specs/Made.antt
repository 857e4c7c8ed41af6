-- What a table and its bans give is well-enlarged: the copies are those of the bans, and each comes from one.
use Rattle.std.specs.Prelude.{◌≡◌, refl, Bool, true, false, not, ◌&&◌, List, [], map, ℕ, ◌+◌, ◌-◌, ◌≤◌, ◌<◌, ltb, eqb, length, get_or, if◌then◌else◌}
use Rattle.std.proofs.Math.Path.{sym, ap₂}
use Rattle.std.proofs.Common.{ap, ◌∙◌, subst, ltb-false, lt-ltb, le-ltb}
use Rattle.std.proofs.lemmas.Bool.{false≢true, not-true}
use Rattle.std.proofs.Math.Bool.{and-false}
use Rattle.std.proofs.Math.Decide.{dec_lt}
use native.Mathlib.Omega.{arith}
use Rattle.std.proofs.Math.ListN.{get_or-eq_default}
use Rattle.code.specs.declared.Word.{Word}
use Rattle.code.specs.declared.Row.{Row}
use Rattle.code.specs.declared.Code.{Code}
use Rattle.code.specs.declared.Enlarged.{Enlarged}
use Rattle.code.specs.declared.Limits.{Limits}
use Rattle.code.specs.Definitions.Lists.{tabulate, sum}
use Rattle.code.specs.Definitions.Tables.{no_word, no_row, entry_of, table_of}
use Rattle.code.specs.Definitions.Bans.{Ban, Copy, no_copy, banned_by, copies_of, copy_at, origin, number_after, may_come, enlarged}
use Rattle.code.specs.Definitions.Enlarged.{enlarged_count, enlarged_word, enlarged_entry, behind_of, enlarged_code, refused17, copies_in}
use Rattle.code.specs.Laws.Below.{Some}
use Rattle.code.specs.Laws.Lists.{or_neither, length-tabulate, get_d_tabulate, tabulate_list, tabulate_same, tabulate_cell, sum_past}
use Rattle.ban_theory.specs.CopyLists.{origin_word, origin_copy, origin_known, next_of, next_known}
use Rattle.ban_theory.specs.Copies.{Serves, comes, unbanned_copy}
use Rattle.ban_theory.specs.BanLists.{Known, banned_known, all_copies_lem, copies_serve}
use Rattle.ban_theory.specs.Enlargements.{Fair, enlarged_fair}
use Rattle.code.specs.Laws.WellFormed.{len_of, WordFits, RowFits, WellFormed}
use Rattle.code.specs.Laws.Words.{size-count}
use Rattle.well_enlarged.specs.WellEnlarged.{NumberFits, Numbered, CopyFits, WellEnlarged}
use Rattle.well_enlarged.specs.Numbers.{copy_in}
use Rattle.well_enlarged.specs.FromBans.{FromBans}
use Rattle.well_enlarged.specs.Totals.{table_serves, enlarged_lengths}

bit : (m : Bool) → (if m then 1 else 0) < 2
bit true = omega arith
bit false = omega arith

bit_test : (m : Bool) → eqb (if m then 1 else 0) 1 ≡ m
bit_test true = refl
bit_test false = refl

module _ {l : Limits} {c : Code} {bs : List Ban} (given : WellFormed l c) (known : Known c.count bs) (room : refused17 l c bs ≡ false) where
  pub bans_serve : Serves c.count (copies_of bs) (banned_by bs)
  bans_serve = copies_serve bs known

  fits : enlarged_count l c bs ≤ l.words
  fits = ltb-false l.words (enlarged_count l c bs) (or_neither (ltb l.words (enlarged_count l c bs)) _ room).0

  -- the word of a number
  known_origin : (x : ℕ) → x < enlarged_count l c bs → origin c.count (copies_of bs) x < c.count
  known_origin x h = origin_known c.count (copies_of bs) bans_serve.copies x h

  -- What is read from the value

  word_made : (x : ℕ) → x < l.words → get_or (enlarged_code l c bs).code.words x no_word ≡ enlarged_word l c bs x
  unfolding enlarged_code
  word_made x h = get_d_tabulate (enlarged_word l c bs) l.words x no_word h

  pub word_of : (x : ℕ) → x < enlarged_count l c bs → get_or (enlarged_code l c bs).code.words x no_word ≡ get_or c.words (origin c.count (copies_of bs) x) no_word
  word_of x h = word_made x (omega (arith, fits)) ∙ rw (lt-ltb x (enlarged_count l c bs) h)

  row_made : (x : ℕ) → x < l.words → get_or (enlarged_code l c bs).code.rows x no_row ≡ record { entries = tabulate (enlarged_entry l c bs x) l.words }
  unfolding enlarged_code
  row_made x h = get_d_tabulate (λ x. record { entries = tabulate (enlarged_entry l c bs x) l.words }) l.words x no_row h

  pub origin_made : (x : ℕ) → x < l.words → get_or (enlarged_code l c bs).origins x 0 ≡ origin c.count (copies_of bs) x
  unfolding enlarged_code
  origin_made x h = get_d_tabulate (origin c.count (copies_of bs)) l.words x 0 h

  behind_made : (x : ℕ) → x < l.words → get_or (enlarged_code l c bs).behind x 0 ≡ behind_of l c bs x
  unfolding enlarged_code
  behind_made x h = get_d_tabulate (behind_of l c bs) l.words x 0 h

  -- A 1 stands where the enlarged code has one.
  pub follow_made : (x y : ℕ) → x < enlarged_count l c bs → y < enlarged_count l c bs
      → (table_of (enlarged_code l c bs).code).follow x y ≡ may_come (table_of c) (copies_of bs) (banned_by bs) x y
  follow_made x y h k =
      let entry : entry_of (enlarged_code l c bs).code x y ≡ enlarged_entry l c bs x y =
      ap (λ (r : Row). get_or r.entries y 0) (row_made x (omega (arith, fits))) ∙ get_d_tabulate (enlarged_entry l c bs x) l.words y 0 (omega (arith, fits)) in
      ap (λ (v : ℕ). eqb v 1) entry
      ∙ rw (lt-ltb x (enlarged_count l c bs) h, lt-ltb y (enlarged_count l c bs) k) (bit_test (may_come (table_of c) (copies_of bs) (banned_by bs) x y))

  copy_made : (i : ℕ) → i < length (copies_of bs) → copy_in (enlarged_code l c bs) i ≡ get_or (copies_of bs) i no_copy
  unfolding enlarged_code
  copy_made i h =
      let at : c.count + i - c.count ≡ i = omega arith in
      let behind : behind_of l c bs (c.count + i) ≡ (get_or (copies_of bs) i no_copy).behind = rw (le-ltb (c.count + i) c.count (omega arith), at) in
      let of : origin c.count (copies_of bs) (c.count + i) ≡ (get_or (copies_of bs) i no_copy).of =
      origin_copy c.count (copies_of bs) (c.count + i) (omega arith) ∙ rw at in
      ap₂ (λ (a b : ℕ). record { behind = a; of = b }) (behind_made (c.count + i) (omega (arith, fits)) ∙ behind) (origin_made (c.count + i) (omega (arith, fits)) ∙ of)

  -- The copies of the value are those of the bans.
  pub copies_made : copies_in (enlarged_code l c bs) ≡ copies_of bs
  unfolding enlarged_code
  copies_made =
      tabulate_list (copy_in (enlarged_code l c bs)) (enlarged_count l c bs - c.count) (copies_of bs) no_copy (omega arith) (λ i h. copy_made i (omega arith))

  -- The plain code

  word_fits : (k : ℕ) → k < l.words → Dec (k < enlarged_count l c bs) → WordFits l (enlarged_count l c bs) k (enlarged_word l c bs k)
  word_fits k h (yes i) =
      let f = given.word (origin c.count (copies_of bs) k) (omega (arith, known_origin k i, given.most)) in
      rw (lt-ltb k (enlarged_count l c bs) i)
      record { array = f.array; some = λ j. f.some (known_origin k i); short = f.short; unused = λ j. absurd (omega arith); symbols = f.symbols }
  word_fits k h (no i) =
      let f = given.word k h in
      rw (le-ltb k (enlarged_count l c bs) (omega arith))
      record { array = f.array; some = λ j. absurd (omega arith); short = f.short; unused = λ j. f.unused (omega arith); symbols = f.symbols }

  row_fits : (x : ℕ) → RowFits l (enlarged_count l c bs) x (record { entries = tabulate (enlarged_entry l c bs x) l.words })
  row_fits x = record {
    array = length-tabulate (enlarged_entry l c bs x) l.words;
    entries = record {
      below = λ p. tabulate_cell (λ v. v < 2) (enlarged_entry l c bs x) l.words p
          (λ h. bit (ltb x (enlarged_count l c bs) && (ltb p (enlarged_count l c bs) && may_come (table_of c) (copies_of bs) (banned_by bs) x p))) (omega arith);
      zero = λ p i. tabulate_cell (λ v. v ≡ 0) (enlarged_entry l c bs x) l.words p (λ h. rw (le-ltb p (enlarged_count l c bs) i, and-false)) refl;
    };
    unused = λ i p. tabulate_cell (λ v. v ≡ 0) (enlarged_entry l c bs x) l.words p (λ h. rw (le-ltb x (enlarged_count l c bs) i)) refl;
  }

  len_past : (k : ℕ) → enlarged_count l c bs ≤ k → k < l.words → len_of (enlarged_code l c bs).code k ≡ 0
  len_past k h i = ap (λ (w : Word). w.len) (word_made k i) ∙ (word_fits k i (dec_lt k (enlarged_count l c bs))).unused h

  total_fits_lem : sum (tabulate (len_of (enlarged_code l c bs).code) l.words) ≤ l.total
  total_fits_lem =
      let symbols = sum (map length (enlarged (table_of c) (copies_of bs) (banned_by bs)).words) in
      let short = ltb-false l.total symbols (or_neither (ltb l.words (enlarged_count l c bs)) (ltb l.total symbols) room).1 in
      let used = sum_past (len_of (enlarged_code l c bs).code) (enlarged_count l c bs) l.words fits len_past in
      let same = tabulate_same (len_of (enlarged_code l c bs).code) (λ x. len_of c (origin c.count (copies_of bs) x)) (enlarged_count l c bs) (λ x h. ap (λ (w : Word). w.len) (word_of x h)) in
      omega (arith, ap sum same, ap sum (enlarged_lengths given bans_serve))

  pub code_made : WellFormed l (enlarged_code l c bs).code
  unfolding enlarged_code
  code_made = record {
    one = omega (arith, given.one);
    most = fits;
    words = length-tabulate (enlarged_word l c bs) l.words;
    rows = length-tabulate (λ x. record { entries = tabulate (enlarged_entry l c bs x) l.words }) l.words;
    begins = given.begins;
    marks = record { below = given.marks.below; zero = λ p h. given.marks.zero p (omega arith) };
    word = λ k h. rw (word_made k h) (word_fits k h (dec_lt k (enlarged_count l c bs)));
    row = λ x h. rw (row_made x h) (row_fits x);
    total = total_fits_lem;
  }

  -- Its matrix

  fair_made : Fair c.count (copies_of bs) (table_of (enlarged_code l c bs).code).follow
  fair_made =
      let fair : Fair c.count (copies_of bs) (may_come (table_of c) (copies_of bs) (banned_by bs)) =
      rw (size-count given) at (enlarged_fair (table_of c) (copies_of bs) (banned_by bs) (table_serves given bans_serve)) in
      record {
        only = λ x y h k f. fair.only x y h k (sym (follow_made x y h k) ∙ f);
        base = λ x y h k f. follow_made x (origin c.count (copies_of bs) y) h (omega (arith, known_origin y k)) ∙ fair.base x y h k (sym (follow_made x y h k) ∙ f);
      }

  -- Its copies

  -- Each copy comes from a ban.
  banned_copy : (i : ℕ) → i < length (copies_of bs) → Some (λ w. banned_by bs w (get_or (copies_of bs) i no_copy).behind (get_or (copies_of bs) i no_copy).of) c.count
  banned_copy =
      all_copies_lem (λ (d : Copy). Some (λ w. banned_by bs w d.behind d.of) c.count) [] bs (λ i h. absurd (omega arith))
      (λ x y z e. record { x = x; below = banned_known known x y z e; passes = e })

  -- What is banned behind a copy may not come there.
  banned_follow : (x w : ℕ) → c.count ≤ x → x < enlarged_count l c bs → w < c.count
      → banned_by bs w (copy_at c.count (copies_of bs) x).behind (copy_at c.count (copies_of bs) x).of ≡ true
      → not ((table_of (enlarged_code l c bs).code).follow (number_after c.count (copies_of bs) (origin c.count (copies_of bs) x) w) x) ≡ true
  banned_follow x w h k i banned =
      let z = origin c.count (copies_of bs) x in
      ap not (follow_made (number_after c.count (copies_of bs) z w) x (next_known c.count (copies_of bs) z w i) k)
      ∙ go (number_after c.count (copies_of bs) z w) (next_of c.count (copies_of bs) z w i) (may_come (table_of c) (copies_of bs) (banned_by bs) (number_after c.count (copies_of bs) z w) x) refl
    where
      go : (v : ℕ) → origin c.count (copies_of bs) v ≡ w → (a : Bool) → may_come (table_of c) (copies_of bs) (banned_by bs) v x ≡ a → not a ≡ true
      go v o false e = refl
      go v o true e =
          let free = (comes (table_of c) (copies_of bs) (banned_by bs) v x e).free in
          let copy = unbanned_copy (table_of c) (copies_of bs) (banned_by bs) v x (rw (size-count given) h) in
          let obeyed = rw (size-count given, o, origin_copy c.count (copies_of bs) x h) at (sym copy ∙ free) in
          absurd (false≢true (sym (not-true (banned_by bs w (copy_at c.count (copies_of bs) x).behind (copy_at c.count (copies_of bs) x).of) obeyed) ∙ banned))

  copy_fits_lem : (x : ℕ) → c.count ≤ x → x < enlarged_count l c bs → CopyFits (enlarged_code l c bs) x
  unfolding enlarged_code
  copy_fits_lem x h k =
      let b = banned_copy (x - c.count) (omega arith) in
      let o< = known_origin x k in
      record {
        word = rw (origin_made x (omega (arith, fits))) (word_of x k ∙ sym (word_of (origin c.count (copies_of bs) x) (omega arith) ∙ rw (origin_word c.count (copies_of bs) (origin c.count (copies_of bs) x) o<)));
        mark = given.marks.zero x h;
        ban = record { x = b.x; below = b.below; passes = rw (copies_made, origin_made x (omega (arith, fits))) (banned_follow x b.x h k b.below b.passes) };
      }

  module _ (apart : (x y : ℕ) → banned_by bs x y y ≡ false) where
    number_fits : (x : ℕ) → NumberFits c.count (enlarged_count l c bs) x (origin c.count (copies_of bs) x) (behind_of l c bs x)
    number_fits x = record {
      of_word = origin_word c.count (copies_of bs) x;
      of_copy = λ h k. known_origin x k;
      of_past = λ h. origin_copy c.count (copies_of bs) x (omega arith) ∙ ap (λ (d : Copy). d.of) (get_or-eq_default (copies_of bs) no_copy (omega arith));
      behind_word = λ h. rw (lt-ltb x c.count h);
      behind_copy = λ h k. rw (le-ltb x c.count h) (bans_serve.copies.behind_known (x - c.count) (omega arith));
      behind_past = λ h. rw (le-ltb x c.count (omega arith)) (ap (λ (d : Copy). d.behind) (get_or-eq_default (copies_of bs) no_copy (omega arith)));
      apart = λ h k e.
          let b = banned_copy (x - c.count) (omega arith) in
          let same : (copy_at c.count (copies_of bs) x).behind ≡ (copy_at c.count (copies_of bs) x).of = rw (le-ltb x c.count h, origin_copy c.count (copies_of bs) x h) at e in
          false≢true (sym (apart b.x _) ∙ rw same at b.passes);
    }

    numbers_made : Numbered l (enlarged_code l c bs)
    unfolding enlarged_code
    numbers_made = record {
      one = given.one;
      most = omega arith;
      room = fits;
      origins = length-tabulate (origin c.count (copies_of bs)) l.words;
      behind = length-tabulate (behind_of l c bs) l.words;
      number = λ x h. rw (origin_made x h, behind_made x h) (number_fits x);
    }

    pub made : WellEnlarged l (enlarged_code l c bs)
    unfolding enlarged_code
    made = record {
      code = code_made;
      numbers = numbers_made;
      once = rw copies_made (λ y z i j a b. bans_serve.copies.once i j a b);
      copy = copy_fits_lem;
      fair = rw copies_made fair_made;
    }

-- Every value that a table and its bans give is well-enlarged.
pub from_bans : {l : Limits} {e : Enlarged} → FromBans l e → WellEnlarged l e
from_bans {l} g = subst (WellEnlarged l) g.same (made g.given g.known g.room g.apart)
