-- What a renumbered table is: well-formed where the table was, and the table with its words in the order of the list.
use Rattle.std.specs.Prelude.{◌≡◌, List, ℕ, ◌≤◌, ◌<◌}
use Rattle.std.proofs.Math.Path.{refl, sym, ap, ap₂}
use Rattle.std.proofs.Common.{◌∙◌, arith, lt-ltb, le-ltb}
use Rattle.std.proofs.Math.Decide.{dec_lt}
use Rattle.std.proofs.Math.Dec.{eqb}
use Rattle.std.proofs.Math.ListN.{get_or}
use Rattle.code.specs.declared.Word.{Word}
use Rattle.code.specs.declared.Row.{Row}
use Rattle.code.specs.declared.Code.{Code}
use Rattle.code.specs.declared.Limits.{Limits}
use Rattle.code.specs.Definitions.Tables.{size, word, symbols_of, no_word, no_row, entry_of, table_of}
use Rattle.code.specs.Definitions.Renumbering.{number_at, old_number, reordered, reordered_row, renumbered_code}
use Rattle.code.specs.Laws.Lists.{length-tabulate, get_d_tabulate, tabulate_cell}
use Rattle.ban_theory.specs.CoversSame.{Agrees}
use Rattle.ban_theory.specs.Renumbered.{Order, renumbered}
use Rattle.code.specs.Laws.WellFormed.{CellsFit, tabulate_cells, len_of, WordFits, RowFits, WellFormed}
use Rattle.code.specs.Laws.Words.{size-count, word_symbols}
use Rattle.renumbering.specs.Sums.{sum_of, sum_same, sum_order}

module _ (n : ℕ) (number : ℕ → ℕ) where
  pub number_in : (i : ℕ) → i < n → number_at n number i ≡ number i
  number_in i h = rw (lt-ltb i n h)

  pub number_past : (i : ℕ) → n ≤ i → number_at n number i ≡ i
  number_past i h = rw (le-ltb i n h)

  number_low : (m : ℕ) → n ≤ m → ((i : ℕ) → i < n → number i < n) → (i : ℕ) → i < m → Dec (i < n) → number_at n number i < m
  number_low m most known i h (yes d) = rw (number_in i d) (omega (arith, known i d))
  number_low m most known i h (no d) = rw (number_past i (omega arith)) h

  number_known : (m : ℕ) → n ≤ m → ((i : ℕ) → i < n → number i < n) → (i : ℕ) → i < m → number_at n number i < m
  number_known m most known i h = number_low m most known i h (dec_lt i n)

number_back : (n : ℕ) (p q : ℕ → ℕ) → ((i : ℕ) → i < n → p i < n) → ((i : ℕ) → i < n → q (p i) ≡ i) → (i : ℕ) → Dec (i < n)
    → number_at n q (number_at n p i) ≡ i
number_back n p q known back i (yes h) = rw (number_in n p i h, number_in n q (p i) (known i h)) (back i h)
number_back n p q known back i (no h) = rw (number_past n p i (omega arith)) (number_past n q i (omega arith))

-- With the numbers past the words, which stay, it is an order of m numbers.
number_order : {n m : ℕ} {old new : ℕ → ℕ} → n ≤ m → Order n old new → Order m (number_at n old) (number_at n new)
number_order {n} {m} {old} {new} most o = record {
  old_known = number_known n old m most o.old_known;
  new_known = number_known n new m most o.new_known;
  new-old = λ i h. number_back n old new o.old_known o.new-old i (dec_lt i n);
  old-new = λ x h. number_back n new old o.new_known o.old-new x (dec_lt x n);
}

-- the old number of word i
abbrev formerly : List ℕ → Code → ℕ → ℕ
formerly old c i = old_number old c.count i

-- What stands in a renumbered table, by number.
module _ (l : Limits) (old : List ℕ) (c : Code) where
  word_there : (i : ℕ) → i < l.words → get_or (renumbered_code l old c).words i no_word ≡ get_or c.words (formerly old c i) no_word
  unfolding renumbered_code
  word_there i h = get_d_tabulate (λ k. get_or c.words (formerly old c k) no_word) l.words i no_word h

  row_there : (i : ℕ) → i < l.words → get_or (renumbered_code l old c).rows i no_row ≡ reordered_row l old c.count (get_or c.rows (formerly old c i) no_row)
  unfolding renumbered_code
  row_there i h = get_d_tabulate (λ k. reordered_row l old c.count (get_or c.rows (formerly old c k) no_row)) l.words i no_row h

  entry_there : (i j : ℕ) → i < l.words → j < l.words → entry_of (renumbered_code l old c) i j ≡ entry_of c (formerly old c i) (formerly old c j)
  entry_there i j h k = ap (λ (r : Row). get_or r.entries j 0) (row_there i h) ∙ get_d_tabulate (λ m. entry_of c (formerly old c i) (formerly old c m)) l.words j 0 k

  mark_there : (i : ℕ) → i < l.words → get_or (renumbered_code l old c).begins i 0 ≡ get_or c.begins (formerly old c i) 0
  unfolding renumbered_code
  mark_there i h = get_d_tabulate (λ k. get_or c.begins (formerly old c k) 0) l.words i 0 h

module _ {l : Limits} (old : List ℕ) {c : Code} (well : WellFormed l c) {new : ℕ → ℕ} (o : Order c.count (λ i. get_or old i 0) new) where
  all_numbers : Order l.words (formerly old c) (number_at c.count new)
  all_numbers = number_order well.most o

  past : (k : ℕ) → c.count ≤ k → formerly old c k ≡ k
  past k h = number_past c.count (λ i. get_or old i 0) k h

  number_is : (x : ℕ) → x < c.count → formerly old c x ≡ get_or old x 0
  number_is x h = number_in c.count (λ i. get_or old i 0) x h

  within : (k : ℕ) → k < c.count → formerly old c k < c.count
  within k h = rw (number_is k h) (o.old_known k h)

  cells_kept : (bound : ℕ) (a : List ℕ) → CellsFit bound c.count a → CellsFit bound c.count (reordered l old c.count 0 a)
  cells_kept bound a fits =
      tabulate_cells bound c.count l.words (λ i. get_or a (formerly old c i) 0) (omega (arith, fits.below 0)) (λ k. fits.below (formerly old c k)) (λ k h. fits.zero (formerly old c k) (rw (past k h) h))

  word_fits : (k : ℕ) → k < l.words → WordFits l c.count k (get_or (renumbered_code l old c).words k no_word)
  word_fits k h =
      let w = well.word (formerly old c k) (all_numbers.old_known k h) in
      rw (word_there l old c k h)
      record { array = w.array; some = λ g. w.some (within k g); short = w.short; unused = λ g. w.unused (rw (past k g) g); symbols = w.symbols }

  row_fits : (x : ℕ) → x < l.words → RowFits l c.count x (get_or (renumbered_code l old c).rows x no_row)
  row_fits x h =
      let r = well.row (formerly old c x) (all_numbers.old_known x h) in
      let f : ℕ → ℕ = λ j. entry_of c (formerly old c x) (formerly old c j) in
      rw (row_there l old c x h)
      record {
        array = length-tabulate f l.words;
        entries = cells_kept 2 (get_or c.rows (formerly old c x) no_row).entries r.entries;
        unused = λ g y. tabulate_cell (λ v. v ≡ 0) f l.words y (λ i. r.unused (rw (past x g) g) (formerly old c y)) refl;
      }

  same_total : sum_of (len_of (renumbered_code l old c)) l.words ≡ sum_of (len_of c) l.words
  same_total =
      sum_same (len_of (renumbered_code l old c)) (λ k. len_of c (formerly old c k)) l.words (λ k h. ap (λ (w : Word). w.len) (word_there l old c k h))
      ∙ sum_order all_numbers (len_of c)

  -- A renumbered table is within the limits.
  pub renumbered_fits : WellFormed l (renumbered_code l old c)
  unfolding renumbered_code
  renumbered_fits = record {
    one = well.one;
    most = well.most;
    words = length-tabulate (λ i. get_or c.words (formerly old c i) no_word) l.words;
    rows = length-tabulate (λ i. reordered_row l old c.count (get_or c.rows (formerly old c i) no_row)) l.words;
    begins = length-tabulate (λ i. get_or c.begins (formerly old c i) 0) l.words;
    marks = cells_kept 2 c.begins well.marks;
    word = word_fits;
    row = row_fits;
    total = omega (arith, same_total, well.total);
  }

  same_count : (renumbered_code l old c).count ≡ c.count
  unfolding renumbered_code
  same_count = refl

  same_size : size (renumbered (table_of c) (λ i. get_or old i 0)) ≡ c.count
  unfolding renumbered
  same_size = length-tabulate (λ i. word (table_of c) (get_or old i 0)) (size (table_of c)) ∙ size-count well

  known : (x : ℕ) → x < size (renumbered (table_of c) (λ i. get_or old i 0)) → x < c.count
  known x h = omega (arith, same_size)

  -- What it means: the table in the order of the list.
  pub renumbered_agrees : Agrees (table_of (renumbered_code l old c)) (renumbered (table_of c) (λ i. get_or old i 0))
  unfolding renumbered
  renumbered_agrees = record {
    free = λ x y z. refl;
    same_size = size-count renumbered_fits ∙ same_count ∙ sym same_size;
    words = λ x h.
        let k = known x h in
        word_symbols renumbered_fits x (omega (arith, same_count))
        ∙ ap symbols_of (word_there l old c x (omega (arith, well.most)) ∙ ap (λ (i : ℕ). get_or c.words i no_word) (number_is x k))
        ∙ sym (word_symbols well (get_or old x 0) (o.old_known x k))
        ∙ sym (get_d_tabulate (λ i. word (table_of c) (get_or old i 0)) (size (table_of c)) x _ (omega (arith, size-count well)));
    begins = λ x h.
        let k = known x h in
        ap (λ (v : ℕ). eqb v 1) (mark_there l old c x (omega (arith, well.most)) ∙ ap (λ (i : ℕ). get_or c.begins i 0) (number_is x k));
    follow = λ x y h g.
        let k = known x h in
        let j = known y g in
        ap (λ (v : ℕ). eqb v 1)
        (entry_there l old c x y (omega (arith, well.most)) (omega (arith, well.most)) ∙ ap₂ (entry_of c) (number_is x k) (number_is y j));
  }
