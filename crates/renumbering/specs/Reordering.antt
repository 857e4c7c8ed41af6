-- Arrays put in the order of a list of old numbers: what the loops know of the list, and what they have put in order so far.
use Rattle.std.specs.Prelude.{◌≡◌, List, ◌++◌, ℕ, ◌+◌, ◌≤◌, ◌<◌, length, drop, get_or, set}
use Rattle.std.proofs.Math.Path.{refl}
use Rattle.std.proofs.Common.{sym, ap, ◌∙◌, arith, length-set}
use Rattle.code.specs.declared.Word.{Word}
use Rattle.code.specs.declared.Row.{Row}
use Rattle.code.specs.declared.Code.{Code}
use Rattle.code.specs.declared.Limits.{Limits}
use Rattle.code.specs.Definitions.Lists.{tabulate}
use Rattle.code.specs.Definitions.Tables.{no_word, no_row}
use Rattle.code.specs.Definitions.Renumbering.{old_number, reordered, reordered_row, renumbered_code}
use Rattle.code.specs.Laws.Lists.{tabulate_list}
use Rattle.code.specs.Laws.Filling.{fill_next, fill_rest}
use Rattle.code.specs.Laws.WellFormed.{RowFits}
use Rattle.renumbering.specs.Renumberings.{number_in, number_past}

-- The first n entries of the list are numbers of words.
pub record Known (l : Limits) (old : List ℕ) (n : ℕ) : Type 0 where
  pub most : n ≤ l.words
  pub known : (i : ℕ) → i < n → get_or old i 0 < n

-- The first i of n entries of an array are those of f, the others are as they were.
pub record Filled {A : Type 0} (f : ℕ → A) (n : ℕ) (was now : List A) (i : ℕ) : Type 0 where
  pub upto : i ≤ n
  pub array : length now ≡ length was
  pub is : now ≡ tabulate f i ++ drop i was

module _ {A : Type 0} (f : ℕ → A) (n : ℕ) (was : List A) where
  pub filled_none : Filled f n was was 0
  unfolding tabulate
  filled_none = record { upto = omega arith; array = refl; is = refl }

  pub filled_more : {now : List A} {i : ℕ} → Filled f n was now i → i < n → n ≤ length was → (v : A) → v ≡ f i → Filled f n was (set now i v) (i + 1)
  filled_more {now} {i} filled h room v e =
      record { upto = omega arith; array = simp length-set filled.array; is = rw (filled.is, e) (fill_next f was i (omega arith)) }

  pub filled_all : (m : ℕ) (none : A) {now : List A} {i : ℕ} → Filled f n was now i → n ≤ i → length was ≡ m → n ≤ m
      → ((k : ℕ) → n ≤ k → k < m → f k ≡ get_or was k none) → now ≡ tabulate f m
  filled_all m none {now} {i} filled h array most rest =
      filled.is ∙ fill_rest f was none i m array (λ k a b. rest k (omega arith) b) (omega (arith, filled.upto))

-- what an array has at the old number of i
abbrev pub entry_from : {A : Type 0} → List ℕ → ℕ → A → List A → ℕ → A
entry_from old n none a i = get_or a (old_number old n i) none

module _ {A : Type 0} (old : List ℕ) (n : ℕ) (none : A) (a : List A) where
  pub entry_from_lem : (i : ℕ) → i < n → get_or a (get_or old i 0) none ≡ entry_from old n none a i
  entry_from_lem i h = ap (λ (x : ℕ). get_or a x none) (sym (number_in n (λ k. get_or old k 0) i h))

  pub entry_past : (i : ℕ) → n ≤ i → entry_from old n none a i ≡ get_or a i none
  entry_past i h = ap (λ (x : ℕ). get_or a x none) (number_past n (λ k. get_or old k 0) i h)

  module _ {l : Limits} (known : Known l old n) (array : length a ≡ l.words) {now : List A} {i : ℕ} (filled : Filled (entry_from old n none a) n a now i) where
    pub reordered_more : i < n → Filled (entry_from old n none a) n a (set now i (get_or a (get_or old i 0) none)) (i + 1)
    reordered_more h = filled_more (entry_from old n none a) n a filled h (omega (arith, known.most)) (get_or a (get_or old i 0) none) (entry_from_lem i h)

    pub reordered_all : n ≤ i → now ≡ reordered l old n none a
    reordered_all h =
        filled_all (entry_from old n none a) n a l.words none filled h array known.most (λ k p q. entry_past k p)

-- Row i of the rows in the order of the list, with its columns in that order.
abbrev pub row_from : Limits → List ℕ → ℕ → List Row → ℕ → Row
row_from l old n rows i = reordered_row l old n (entry_from old n no_row rows i)

module _ (l : Limits) (old : List ℕ) (n : ℕ) (rows : List Row) (known : Known l old n) (array : length rows ≡ l.words) where
  -- A row past the words is zero, in any order.
  row_past : ((x : ℕ) → x < l.words → RowFits l n x (get_or rows x no_row)) → (k : ℕ) → n ≤ k → k < l.words → row_from l old n rows k ≡ get_or rows k no_row
  row_past fits k h b =
      let r = get_or rows k no_row in
      let fit = fits k b in
      let same : reordered l old n 0 r.entries ≡ r.entries =
      tabulate_list (entry_from old n 0 r.entries) l.words r.entries 0 fit.array (λ j i. fit.unused h (old_number old n j) ∙ sym (fit.unused h j)) in
      ap (reordered_row l old n) (entry_past old n no_row rows k h) ∙ rw same

  module _ {now : List Row} {i : ℕ} (filled : Filled (row_from l old n rows) n rows now i) where
    pub rows_more : i < n → (row : Row) → row ≡ reordered_row l old n (get_or rows (get_or old i 0) no_row) → Filled (row_from l old n rows) n rows (set now i row) (i + 1)
    rows_more h row e =
        filled_more (row_from l old n rows) n rows filled h (omega (arith, known.most)) row (e ∙ ap (reordered_row l old n) (entry_from_lem old n no_row rows i h))

    pub rows_all : ((x : ℕ) → x < l.words → RowFits l n x (get_or rows x no_row)) → n ≤ i → now ≡ tabulate (row_from l old n rows) l.words
    rows_all fits h = filled_all (row_from l old n rows) n rows l.words no_row filled h array known.most (row_past fits)

-- The table of words, rows and start marks that were put in order.
pub renumbered_parts : (l : Limits) (old : List ℕ) (c : Code) {words : List Word} {rows : List Row} {begins : List ℕ} → words ≡ reordered l old c.count no_word c.words
    → rows ≡ tabulate (row_from l old c.count c.rows) l.words → begins ≡ reordered l old c.count 0 c.begins
    → record { words = words; rows = rows; begins = begins; count = c.count } ≡ renumbered_code l old c
unfolding renumbered_code
renumbered_parts l old c p q r = rw (p, q, r)
