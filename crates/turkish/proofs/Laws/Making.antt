-- The code of some types, filled type by type: none yet, one more, all of them.
use mathlib.Core.Path.{◌≡◌, refl, sym, ap, ◌∙◌}
use mathlib.Core.List.{List, [], map}
use Prim.Native.Nat.{ℕ, ◌+◌, ◌≤◌, ◌<◌}
use native.Mathlib.Omega.{arith}
use lib.ListN.{length, get_or, set, replicate, length-map, length-replicate, get_or-replicate, get_or-map}
use Rattle.code.specs.declared.Word.{Word}
use Rattle.code.specs.declared.Row.{Row}
use Rattle.code.specs.declared.Code.{Code}
use Rattle.code.specs.Definitions.Lists.{every, tabulate}
use Rattle.code.specs.Definitions.Tables.{no_word}
use Rattle.code.specs.Definitions.Sheets.{limits, code_of, blank_code}
use Rattle.code.specs.Laws.Lists.{map_at}
use Rattle.turkish.specs.declared.TypeRow.{TypeRow}
use Rattle.turkish.specs.Types.{entry_for, matrix, row_of_types, padded, word_for, row_for, code_of_types}
use Rattle.turkish.proofs.Laws.Padding.{Padding, padding_none, padding_next, padding_all}

-- The first x words, rows and start marks of the code are those of the types ts; the others are still blank.
pub record Made (ts : List (List ℕ)) (code : Code) (x : ℕ) : Type 0 where
  pub words : Padding (word_for limits []) (map (word_for limits) ts) limits.words x code.words
  pub rows : Padding (row_for limits []) (map (row_for limits) (matrix ts)) limits.words x code.rows
  pub begins : Padding 0 (replicate (length ts) 1) limits.words x code.begins

pub made_none : {ts : List (List ℕ)} {code : Code} → code ≡ blank_code limits → Made ts code 0
unfolding every tabulate padded code_of blank_code
made_none e = rw e record { words = padding_none refl; rows = padding_none refl; begins = padding_none refl }

-- Word and row x of the constants ws and rs
module _ (ts : List (List ℕ)) (x : ℕ) (h : x < length ts) where
  word_at : {ws : List Word} → ws ≡ map (word_for limits) ts → get_or ws x no_word ≡ get_or (map (word_for limits) ts) x (word_for limits [])
  word_at e = rw e (map_at (word_for limits) ts x no_word [] h ∙ sym (get_or-map (word_for limits) ts x []))

  entries_at : {rs : List TypeRow} → rs ≡ map row_of_types (matrix ts) → (get_or rs x (row_of_types [])).0 ≡ get_or (matrix ts) x []
  entries_at e = rw e (ap (λ (r : TypeRow). r.0) (get_or-map row_of_types (matrix ts) x []))

  pub entries_long : {rs : List TypeRow} → rs ≡ map row_of_types (matrix ts) → length (get_or rs x (row_of_types [])).0 ≡ length ts
  entries_long e = ap length (entries_at e ∙ map_at (λ t. map (entry_for t) ts) ts x [] [] h) ∙ length-map ts (entry_for (get_or ts x []))

  pub made_more : {code : Code} {ws : List Word} {rs : List TypeRow} {row : Row} → length ts ≤ limits.words → ws ≡ map (word_for limits) ts → rs ≡ map row_of_types (matrix ts)
      → row ≡ row_for limits (get_or rs x (row_of_types [])).0 → Made ts code x
      → Made ts (record { words = set code.words x (get_or ws x no_word); rows = set code.rows x row; begins = set code.begins x 1; count = code.count }) (x + 1)
  made_more few w r e m = record {
    words = padding_next (omega arith) (word_at w) m.words;
    rows = padding_next (omega arith) (e ∙ ap (row_for limits) (entries_at r) ∙ sym (get_or-map (row_for limits) (matrix ts) x [])) m.rows;
    begins = padding_next (omega arith) (sym (get_or-replicate (length ts) x 1 0 h)) m.begins;
  }

pub made_all : (ts : List (List ℕ)) {code : Code} {x : ℕ} → length ts ≤ x → x ≤ limits.words → Made ts code x
    → record { words = code.words; rows = code.rows; begins = code.begins; count = length ts } ≡ code_of_types limits ts
unfolding code_of_types
made_all ts h most m =
    let w = padding_all (omega (arith, length-map ts (word_for limits))) most m.words in
    let r = padding_all (omega (arith, length-map (matrix ts) (row_for limits), length-map ts (λ t. map (entry_for t) ts))) most m.rows in
    let b = padding_all (omega (arith, length-replicate {A = ℕ} (length ts) 1)) most m.begins in
    rw (w, r, b)
