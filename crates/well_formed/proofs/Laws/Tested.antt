-- The tests of words, rows and lengths, joined as the code joins them, say exactly whether the parts fit and the table is well-formed.
use mathlib.Core.Path.{◌≡◌}
use mathlib.Core.Bool.{Bool, ◌&&◌}
use Prim.Native.Nat.{ℕ, ◌+◌, ◌-◌, ◌≤◌, ◌<◌}
use native.Mathlib.Omega.{arith}
use lib.Dec.{ltb, leb}
use lib.ListN.{length}
use Rattle.code.specs.declared.Word.{Word}
use Rattle.code.specs.declared.Row.{Row}
use Rattle.code.specs.declared.Code.{Code}
use Rattle.code.specs.declared.Limits.{Limits}
use Rattle.code.specs.Definitions.Lists.{tabulate, sum}
use Rattle.code.specs.Laws.Lists.{sum_more}
use Rattle.code.specs.Laws.Exactly.{Exactly, exactly_iff, exactly_and, exactly_lt, exactly_le}
use Rattle.code.specs.Laws.WellFormed.{len_of, WordFits, RowFits, RecordAt, WellFormed}
use Rattle.well_formed.specs.AtMost.{AtMost, greatest_fit, greatest_entries, greatest_symbols}

module _ (l : Limits) (n : ℕ) where
  module _ (k : ℕ) (w : Word) (array : length w.symbols ≡ l.symbols) {t : Bool} where
    pub word_used : k < n → 1 ≤ w.len → w.len ≤ l.symbols → Exactly t (AtMost w.symbols (greatest_symbols l w.len)) → Exactly t (WordFits l n k w)
    word_used h some short symbols =
        exactly_iff (
          (λ p. record { array = array; some = λ i. some; short = short; unused = λ i. absurd (omega arith); symbols = p }),
          (λ f. f.symbols),
        )
        (exactly_iff (greatest_fit 15 w.len l.symbols w.symbols array) symbols)

    pub word_unused : n ≤ k → w.len ≡ 0 → Exactly t (AtMost w.symbols (greatest_symbols l 0)) → Exactly t (WordFits l n k w)
    word_unused h none symbols =
        exactly_iff (
          (λ p. record { array = array; some = λ i. absurd (omega arith); short = omega arith; unused = λ i. none; symbols = rw none p }),
          (λ f. rw none at f.symbols),
        )
        (exactly_iff (greatest_fit 15 0 l.symbols w.symbols array) symbols)

  module _ (x : ℕ) (r : Row) (array : length r.entries ≡ l.words) {t : Bool} where
    pub row_used : x < n → Exactly t (AtMost r.entries (greatest_entries l n)) → Exactly t (RowFits l n x r)
    row_used h entries =
        exactly_iff ((λ p. record { array = array; entries = p; unused = λ i. absurd (omega arith) }), (λ f. f.entries))
        (exactly_iff (greatest_fit 1 n l.words r.entries array) entries)

    pub row_unused : n ≤ x → Exactly t (AtMost r.entries (greatest_entries l 0)) → Exactly t (RowFits l n x r)
    row_unused h entries =
        exactly_iff (
          (λ p. record {
            array = array;
            entries = record { below = p.below; zero = λ y i. p.zero y (omega arith) };
            unused = λ i y. p.zero y (omega arith);
          }),
          (λ f. record { below = f.entries.below; zero = λ y i. f.unused h y }),
        )
        (exactly_iff (greatest_fit 1 0 l.words r.entries array) entries)

-- The room that the symbols of the first k words leave of one more than the limit: none is left where they are over the limit.
module _ (c : Code) (limit k room : ℕ) (left : room ≡ limit + 1 - sum (tabulate (len_of c) k)) where
  pub room_more : room - len_of c k ≡ limit + 1 - sum (tabulate (len_of c) (k + 1))
  room_more = omega (arith, sum_more (len_of c) k)

  pub room_left : Exactly (ltb 0 room) (sum (tabulate (len_of c) k) ≤ limit)
  room_left = exactly_iff ((λ h. omega arith), (λ h. omega arith)) (exactly_lt 0 room)

module _ (l : Limits) (c : Code) (words : length c.words ≡ l.words) (rows : length c.rows ≡ l.words) (begins : length c.begins ≡ l.words)
    {m t u : Bool} where
  pub table_tested : Exactly m (AtMost c.begins (greatest_entries l c.count)) → Exactly t ((k : ℕ) → k < l.words → RecordAt l c k)
      → Exactly u (sum (tabulate (len_of c) l.words) ≤ l.total)
      → Exactly (leb 1 c.count && leb c.count l.words && m && t && u) (WellFormed l c)
  table_tested marks records total =
      exactly_iff (
        (λ p. record {
          one = p.0.0.0.0;
          most = p.0.0.0.1;
          words = words;
          rows = rows;
          begins = begins;
          marks = p.0.0.1;
          word = λ k h. (p.0.1 k h).0;
          row = λ x h. (p.0.1 x h).1;
          total = p.1;
        }),
        (λ w. ((((w.one, w.most), w.marks), λ k h. (w.word k h, w.row k h)), w.total)),
      )
      (exactly_and (exactly_and (exactly_and (exactly_and (exactly_le 1 c.count) (exactly_le c.count l.words))
      (exactly_iff (greatest_fit 1 c.count l.words c.begins begins) marks)) records) total)
