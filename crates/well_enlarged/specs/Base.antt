-- The table that a value was made of, as it can be read off: its words, their start marks, and which of them may follow which.
use Rattle.std.specs.Prelude.{◌≡◌, refl, Bool, true, false, ◌&&◌, ℕ, ◌+◌, ◌≤◌, ◌<◌, ltb, eqb, get_or, if◌then◌else◌}
use Rattle.std.proofs.Common.{ap, ◌∙◌, arith, lt-ltb, le-ltb}
use Rattle.std.proofs.Math.Bool.{and-false}
use Rattle.std.proofs.Math.Decide.{dec_lt}
use Rattle.code.specs.declared.Word.{Word}
use Rattle.code.specs.declared.Row.{Row}
use Rattle.code.specs.declared.Code.{Code}
use Rattle.code.specs.declared.Enlarged.{Enlarged}
use Rattle.code.specs.declared.Limits.{Limits}
use Rattle.code.specs.Definitions.Lists.{tabulate}
use Rattle.code.specs.Definitions.Tables.{no_word, no_row, entry_of, table_of}
use Rattle.code.specs.Definitions.Bans.{number_after}
use Rattle.code.specs.Definitions.Enlarged.{copies_in}
use Rattle.code.specs.Laws.Lists.{length-tabulate, get_d_tabulate, tabulate_cell, sum_bound}
use Rattle.code.specs.Laws.WellFormed.{len_of, WordFits, RowFits, WellFormed}
use Rattle.well_enlarged.specs.WellEnlarged.{WellEnlarged}
use Rattle.well_enlarged.specs.Numbers.{next_within}

abbrev pub blank_word : Limits → Word
blank_word l = record { symbols = tabulate (λ p. 0) l.symbols; len = 0 }

abbrev pub base_word : Limits → Enlarged → ℕ → Word
base_word l e x = if ltb x e.originals then get_or e.code.words x no_word else blank_word l

-- x may follow y where the number that x has after y may.
abbrev pub base_entry : Enlarged → ℕ → ℕ → ℕ
base_entry e x y = if ltb x e.originals && ltb y e.originals then entry_of e.code (number_after e.originals (copies_in e) y x) y else 0

abbrev pub base_of : Limits → Enlarged → Code
base_of l e = record {
  words = tabulate (base_word l e) l.words;
  rows = tabulate (λ x. record { entries = tabulate (base_entry e x) l.words }) l.words;
  begins = e.code.begins;
  count = e.originals;
}

low_entry : (a : Bool) (v : ℕ) → v < 2 → (if a then v else 0) < 2
low_entry true v h = h
low_entry false v h = omega arith

module _ {l : Limits} {e : Enlarged} (w : WellEnlarged l e) where
  word_used : (k : ℕ) → k < e.originals → base_word l e k ≡ get_or e.code.words k no_word
  word_used k h = rw (lt-ltb k e.originals h)

  -- The words of the table are those of the value.
  pub base_word_lem : (k : ℕ) → k < e.originals → get_or (base_of l e).words k no_word ≡ get_or e.code.words k no_word
  base_word_lem k h = get_d_tabulate (base_word l e) l.words k no_word (omega (arith, w.numbers.most, w.numbers.room)) ∙ word_used k h

  -- Behind them it is blank.
  pub base_blank : (k : ℕ) → e.originals ≤ k → k < l.words → get_or (base_of l e).words k no_word ≡ blank_word l
  base_blank k h i = get_d_tabulate (base_word l e) l.words k no_word i ∙ rw (le-ltb k e.originals h)

  blank_fits : (k : ℕ) → e.originals ≤ k → WordFits l e.originals k (blank_word l)
  blank_fits k h = record {
    array = length-tabulate (λ p. 0) l.symbols;
    some = λ i. absurd (omega arith);
    short = omega arith;
    unused = λ i. refl;
    symbols = record {
      below = λ p. tabulate_cell (λ v. v < 16) (λ p. 0) l.symbols p (λ i. omega arith) (omega arith);
      zero = λ p i. tabulate_cell (λ v. v ≡ 0) (λ p. 0) l.symbols p (λ j. refl) refl;
    };
  }

  word_fits : (k : ℕ) → k < l.words → Dec (k < e.originals) → WordFits l e.originals k (get_or (base_of l e).words k no_word)
  word_fits k h (yes i) =
      let f = w.code.word k h in
      rw (base_word_lem k i)
      record { array = f.array; some = λ j. f.some (omega (arith, w.numbers.most)); short = f.short; unused = λ j. absurd (omega arith); symbols = f.symbols }
  word_fits k h (no i) = rw (base_blank k (omega arith) h) (blank_fits k (omega arith))

  row_fits : (x : ℕ) → RowFits l e.originals x (record { entries = tabulate (base_entry e x) l.words })
  row_fits x = record {
    array = length-tabulate (base_entry e x) l.words;
    entries = record {
      below = λ y. tabulate_cell (λ v. v < 2) (base_entry e x) l.words y (λ h. entry_case y (dec_lt x e.originals)) (omega arith);
      zero = λ y i. tabulate_cell (λ v. v ≡ 0) (base_entry e x) l.words y (λ h. rw (le-ltb y e.originals i, and-false)) refl;
    };
    unused = λ i y. tabulate_cell (λ v. v ≡ 0) (base_entry e x) l.words y (λ h. rw (le-ltb x e.originals i)) refl;
  }
    where
      entry_case : (y : ℕ) → Dec (x < e.originals) → base_entry e x y < 2
      entry_case y (yes h) =
          low_entry (ltb x e.originals && ltb y e.originals) (entry_of e.code (number_after e.originals (copies_in e) y x) y)
          ((w.code.row (number_after e.originals (copies_in e) y x) (omega (arith, next_within w.numbers y x h, w.numbers.room))).entries.below y)
      entry_case y (no h) = rw (le-ltb x e.originals (omega arith)) (omega arith)

  row_base : (x : ℕ) → x < l.words → get_or (base_of l e).rows x no_row ≡ record { entries = tabulate (base_entry e x) l.words }
  row_base x h = get_d_tabulate (λ x. record { entries = tabulate (base_entry e x) l.words }) l.words x no_row h

  len_case : (k : ℕ) → k < l.words → Dec (k < e.originals) → len_of (base_of l e) k ≤ len_of e.code k + 0
  len_case k h (yes i) = omega (arith, ap (λ (v : Word). v.len) (base_word_lem k i))
  len_case k h (no i) = omega (arith, ap (λ (v : Word). v.len) (base_blank k (omega arith) h))

  mark_past : (p : ℕ) → e.originals ≤ p → Dec (p < e.code.count) → get_or e.code.begins p 0 ≡ 0
  mark_past p h (yes i) = (w.copy p h i).mark
  mark_past p h (no i) = w.code.marks.zero p (omega arith)

  -- It is the table of a sheet.
  pub base_given : WellFormed l (base_of l e)
  base_given = record {
    one = w.numbers.one;
    most = omega (arith, w.numbers.most, w.numbers.room);
    words = length-tabulate (base_word l e) l.words;
    rows = length-tabulate (λ x. record { entries = tabulate (base_entry e x) l.words }) l.words;
    begins = w.code.begins;
    marks = record { below = w.code.marks.below; zero = λ p h. mark_past p h (dec_lt p e.code.count) };
    word = λ k h. word_fits k h (dec_lt k e.originals);
    row = λ x h. rw (row_base x h) (row_fits x);
    total = omega (arith, w.code.total, sum_bound (len_of (base_of l e)) (len_of e.code) 0 l.words (λ k h. len_case k h (dec_lt k e.originals)));
  }

  -- Which words may follow which is what the value says.
  pub base_follow : (x y : ℕ) → x < e.originals → y < e.originals
      → (table_of (base_of l e)).follow x y ≡ (table_of e.code).follow (number_after e.originals (copies_in e) y x) y
  base_follow x y h k =
      let low : e.originals ≤ l.words = omega (arith, w.numbers.most, w.numbers.room) in
      let entry : entry_of (base_of l e) x y ≡ base_entry e x y =
      ap (λ (r : Row). get_or r.entries y 0) (row_base x (omega arith)) ∙ get_d_tabulate (base_entry e x) l.words y 0 (omega arith) in
      ap (λ (v : ℕ). eqb v 1) entry ∙ rw (lt-ltb x e.originals h, lt-ltb y e.originals k)
