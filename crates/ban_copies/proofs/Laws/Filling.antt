-- Filling in the words and rows of a code with copies: the entries of a row, and the code after x words and copies.
use Rattle.std.specs.Prelude.{if◌then◌else◌}
use mathlib.Core.Path.{◌≡◌, refl, sym, ◌∙◌}
use mathlib.Core.Bool.{Bool}
use mathlib.Core.List.{List, ◌++◌}
use Prim.Native.Nat.{ℕ, ◌+◌, ◌≤◌, ◌<◌}
use native.Mathlib.Omega.{arith}
use lib.ListN.{length, drop, get_or, set, replicate}
use borrow.Author.Tests.{lt-ltb, le-ltb}
use Rattle.code.specs.declared.Row.{Row}
use Rattle.code.specs.declared.Code.{Code}
use Rattle.code.specs.Definitions.Lists.{tabulate}
use Rattle.code.specs.Definitions.Sheets.{limits}
use Rattle.code.specs.Definitions.Tables.{no_word, no_row}
use Rattle.code.specs.Definitions.Bans.{Ban, copies_of, origin}
use Rattle.code.specs.Definitions.Enlarged.{enlarged_count, enlarged_word, enlarged_entry, enlarged_code}
use Rattle.code.specs.Laws.Lists.{tabulate_list, tabulate_same}
use Rattle.code.specs.Laws.Filling.{fill_next, fill_rest, fill_end}
use Rattle.code.specs.Laws.WellFormed.{WellFormed}
use Rattle.ban_copies.specs.declared.Copies.{Copies}
use Rattle.ban_copies.specs.Held.{Held, origin_at}
use Rattle.ban_copies.specs.Coming.{comes, entry_by, comes_may}

-- The entries of row x, by the row e of its word
module _ (e : List ℕ) (n : ℕ) (bs : List Ban) (x : ℕ) where
  pub entry_next : (y : ℕ) {r : Bool} {v : ℕ} → y < n + length (copies_of bs) → r ≡ comes e n bs x y → v ≡ (if r then 1 else 0) → v ≡ entry_by e n bs x y
  entry_next y h q p = rw (lt-ltb y (n + length (copies_of bs)) h, ← q) p

  pub row_filled : (y : ℕ) {r : Row} → r.entries ≡ tabulate (entry_by e n bs x) y ++ drop y (replicate limits.words 0) → n + length (copies_of bs) ≤ y → y ≤ limits.words
      → r ≡ record { entries = tabulate (entry_by e n bs x) limits.words }
  row_filled y p h m =
      let all = p ∙ fill_end (entry_by e n bs x) 0 y limits.words (λ k l. rw (le-ltb k (n + length (copies_of bs)) (omega arith))) m in
      rw (← all)

module _ (c : Code) (bs : List Ban) where
  abbrev pub enlarged_row : ℕ → Row
  enlarged_row x = record { entries = tabulate (enlarged_entry limits c bs x) limits.words }

  -- The code after x words and copies.
  pub record Filled (code : Code) (x : ℕ) : Type 0 where
    pub words : code.words ≡ tabulate (enlarged_word limits c bs) x ++ drop x c.words
    pub rows : code.rows ≡ tabulate enlarged_row x ++ drop x c.rows
    pub begins : code.begins ≡ c.begins
    pub upto : x ≤ enlarged_count limits c bs

  pub filled_none : Filled c 0
  unfolding tabulate
  filled_none = record { words = refl; rows = refl; begins = refl; upto = omega arith }

  module _ (well : WellFormed limits c) where
    row_here : (x : ℕ) → x < enlarged_count limits c bs
        → record { entries = tabulate (entry_by (get_or c.rows (origin c.count (copies_of bs) x) no_row).entries c.count bs x) limits.words } ≡ enlarged_row x
    row_here x h =
        let e = (get_or c.rows (origin c.count (copies_of bs) x) no_row).entries in
        let same = tabulate_same (entry_by e c.count bs x) (enlarged_entry limits c bs x) limits.words
        (λ y l. rw (lt-ltb x (enlarged_count limits c bs) h, comes_may bs x y well)) in
        rw same

    row_past : (x : ℕ) → enlarged_count limits c bs ≤ x → x < limits.words → enlarged_row x ≡ get_or c.rows x no_row
    row_past x h l =
        let row = well.row x l in
        let zeros = tabulate_list (enlarged_entry limits c bs x) limits.words (get_or c.rows x no_row).entries 0 row.array
        (λ y m. rw (le-ltb x (enlarged_count limits c bs) h) (sym (row.unused (omega arith) y))) in
        rw zeros

    module _ {k : Copies} (h : Held c.count (copies_of bs) k) where
      count_is : k.originals + k.number ≡ enlarged_count limits c bs
      count_is = omega (arith, h.originals, h.number)

      -- One word or copy more, by the number o of its word
      pub filled_more : {code : Code} {x o : ℕ} {row : Row} → Filled code x → x < k.originals + k.number → o ≡ get_or k.origins x 0
          → row ≡ record { entries = tabulate (entry_by (get_or c.rows o no_row).entries k.originals bs x) limits.words }
          → Filled (record { words = set code.words x (get_or c.words o no_word); rows = set code.rows x row; begins = code.begins; count = code.count }) (x + 1)
      filled_more {code} {x} {o} {row} f l p q =
          let within : x < enlarged_count limits c bs = omega (arith, count_is) in
          let of-x = p ∙ origin_at h x (omega (arith, h.most)) in
          let word_is : get_or c.words o no_word ≡ enlarged_word limits c bs x = rw (lt-ltb x (enlarged_count limits c bs) within, of-x) in
          let row_is : row ≡ enlarged_row x = q ∙ rw (h.originals, of-x) (row_here x within) in
          record {
            words = rw (f.words, word_is) (fill_next (enlarged_word limits c bs) c.words x (omega (arith, well.words)));
            rows = rw (f.rows, row_is) (fill_next enlarged_row c.rows x (omega (arith, well.rows)));
            begins = f.begins;
            upto = omega arith;
          }

      -- After the last one the code is the enlarged one.
      pub filled_all : {code : Code} {x : ℕ} → Filled code x → k.originals + k.number ≤ x
          → record { words = code.words; rows = code.rows; begins = code.begins; count = k.originals + k.number } ≡ (enlarged_code limits c bs).code
      unfolding enlarged_code
      filled_all {code} {x} f l =
          let most = h.most in
          let upto = f.upto in
          let w : code.words ≡ tabulate (enlarged_word limits c bs) limits.words =
          f.words ∙ fill_rest (enlarged_word limits c bs) c.words no_word x limits.words well.words
          (λ i a b. rw (le-ltb i (enlarged_count limits c bs) (omega (arith, count_is)))) (omega arith) in
          let r : code.rows ≡ tabulate enlarged_row limits.words =
          f.rows ∙ fill_rest enlarged_row c.rows no_row x limits.words well.rows (λ i a b. row_past i (omega (arith, count_is)) b) (omega arith) in
          rw (w, r, f.begins, count_is)
