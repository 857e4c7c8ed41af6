-- The table of a well-formed code is within the limits, and the code's words and rows are the table's.
use Rattle.std.specs.Prelude.{◌≡◌, refl, List, ℕ, ◌+◌, ◌≤◌, ◌<◌, get_or, set, replicate}
use Rattle.std.proofs.Common.{sym, ◌∙◌, arith, get_or-take, get_or-set_same}
use Rattle.std.proofs.Math.Path.{ap}
use Rattle.std.proofs.Math.Decide.{dec_lt}
use Rattle.std.proofs.lemmas.List.{length-replicate}
use Rattle.std.proofs.Math.ListN.{get_or-eq_default}
use Rattle.std.proofs.Math.Seq.{paste}
use Rattle.code.specs.declared.Code.{Code}
use Rattle.code.specs.Definitions.Lists.{tabulate, sum}
use Rattle.code.specs.Definitions.Sheets.{limits}
use Rattle.code.specs.Definitions.Tables.{size, word, no_word, no_row, table_of}
use Rattle.code.specs.Laws.Lists.{tabulate_same, sum_past}
use Rattle.code.specs.Laws.WellFormed.{len_of, WellFormed}
use Rattle.code.specs.Laws.Words.{size-count, word_symbols, word-length}
use Rattle.pair_places.specs.Bases.{base_more, base_before}
use Rattle.pair_places.specs.Lays.{length_of, base}
use Rattle.pair_places.specs.Layouts.{LaysTo, Holds, lays_none, lays_more, counted}
use Rattle.pair_places.specs.Offsets.{word_count_at, place_count_at, begins_from, list_length}
use Rattle.pair_places.specs.Whole.{Fits, LaidOut, laid_out}
use Rattle.pair_places.specs.Words.{Room, WordLaid}
use Rattle.pair_places.specs.Writes.{written_copy}

module _ (c : Code) (well : WellFormed limits c) where
  pub holds : (x : ℕ) → x < c.count → Holds (table_of c) x (get_or c.words x no_word) (get_or c.rows x no_row)
  holds x h =
      let len = word-length well x h in
      record {
        len = sym len;
        symbols = λ k l. rw (word_symbols well x h) (sym (get_or-take (len_of c x) (get_or c.words x no_word).symbols k 0 (omega arith)));
        follow = λ y l. refl;
      }

  pub base_sum : (x : ℕ) → x ≤ c.count → base (table_of c) x ≡ sum (tabulate (len_of c) x)
  unfolding base
  base_sum x h = ap sum (tabulate_same (length_of (table_of c)) (len_of c) x (λ k l. word-length well k (omega arith)))

  total : base (table_of c) c.count ≤ limits.total
  total = omega (arith, base_sum c.count (omega arith), sum_past (len_of c) c.count limits.words well.most (λ k h b. (well.word k b).unused h), well.total)

  by_symbol : (x k : ℕ) → x < c.count → Dec (k < length_of (table_of c) x) → get_or (word (table_of c) x) k 0 < 16
  by_symbol x k h (yes l) = omega (arith, (holds x h).symbols k l, (well.word x (omega (arith, well.most))).symbols.below k)
  by_symbol x k h (no l) = omega (arith, get_or-eq_default (word (table_of c) x) 0 {n = k} (omega arith))

  -- The table is within the limits.
  pub code_fits : Fits (table_of c)
  code_fits =
      let n = size-count well in
      record {
        one = omega (arith, well.one);
        most = omega (arith, well.most);
        plain = record {
          some = λ x h. omega (arith, word-length well x (omega arith), (well.word x (omega (arith, well.most))).some (omega arith));
          free = λ x y z. refl;
        };
        low = λ x k h. by_symbol x k (omega arith) (dec_lt k (length_of (table_of c) x));
        total = rw (size-count well) total;
      }

  -- Before the first word.
  pub code_none : (g : List ℕ) → g ≡ paste (replicate list_length 0) begins_from c.begins limits.words → LaysTo (table_of c) 0 (set g word_count_at c.count)
  code_none g e =
      let n = length-replicate {A = ℕ} list_length 0 in
      lays_none (table_of c) c.count (sym (size-count well)) code_fits.most c.begins g
      (written_copy c.begins e (omega arith) (omega (arith, well.begins)))
      (λ x h. refl)

  module _ (x at : ℕ) (f : List ℕ) (h : x < c.count) (start : at ≡ base (table_of c) x) (old : LaysTo (table_of c) x f) where
    -- There is room for each word after those before it.
    pub word_room : Room at x (get_or c.words x no_word) (get_or c.rows x no_row) f
    word_room =
        let w = well.word x (omega (arith, well.most)) in
        record {
          long = old.long;
          known = omega (arith, well.most);
          some = w.some h;
          short = w.short;
          places = omega (arith, base_before (table_of c) x c.count h, word-length well x h, total);
          symbols = w.array;
          entries = (well.row x (omega (arith, well.most))).array;
        }

    -- The next word starts where this one ends.
    pub next_start : at + len_of c x ≡ base (table_of c) (x + 1)
    next_start = omega (arith, base_more (table_of c) x, word-length well x h)

    -- Laying out word x after those before it lays out the first x + 1.
    pub next_lays : (g : List ℕ) → WordLaid at x (get_or c.words x no_word) (get_or c.rows x no_row) f g → LaysTo (table_of c) (x + 1) g
    next_lays g laid =
        let n = size-count well in
        lays_more (table_of c) x (get_or c.words x no_word) (get_or c.rows x no_row)
        (rw start at laid)
        (holds x h)
        (omega (arith, well.most))
        code_fits.most
        (code_fits.plain.some x (omega arith))
        (omega (arith, base_before (table_of c) x c.count h, total))
        old

  -- After the last word the number of places is stored.
  module _ (x at : ℕ) (f : List ℕ) (last : c.count ≤ x) (within : x ≤ c.count) (start : at ≡ base (table_of c) x) (done : LaysTo (table_of c) x f) where
    all : base (table_of c) x ≤ limits.total
    all = let e : x ≡ c.count = omega arith in rw e total

    pub places_fit : at ≤ limits.total
    places_fit = omega (arith, all)

    pub code_laid : LaidOut (table_of c) (set f place_count_at at)
    code_laid =
        let e : x ≡ size (table_of c) = omega (arith, size-count well) in
        let whole = counted (table_of c) x at (omega (arith, well.most)) code_fits.most all done in
        laid_out code_fits (rw e at whole) (get_or-set_same f place_count_at at 0 (omega (arith, done.long)) ∙ rw e at start)
