-- A row of the matrix, worked out entry by entry from the words of the constant.
use mathlib.Core.Path.{◌≡◌, refl, sym, ap, ◌∙◌}
use mathlib.Core.Bool.{true, ◌&&◌, and-eq-true_iff}
use mathlib.Core.List.{List, [], map}
use Prim.Native.Nat.{ℕ, ◌≤◌, ◌<◌}
use native.Mathlib.Omega.{arith}
use lib.Dec.{leb}
use lib.ListN.{length, take, get_or, length-map}
use lib.Seq.{length-take-le, get_or-take, ext_get_or}
use borrow.Author.Tests.{leb-true}
use Rattle.code.specs.declared.Word.{Word}
use Rattle.code.specs.Definitions.Lists.{every, tabulate}
use Rattle.code.specs.Definitions.Sheets.{limits}
use Rattle.code.specs.Definitions.Tables.{no_word, symbols_of}
use Rattle.code.specs.Laws.Lists.{length-tabulate, get_d_tabulate, tabulate_list, map_at, every_at}
use Rattle.turkish.specs.Types.{types, entry_for, matrix, padded, word_for}
use Rattle.turkish.proofs.Laws.Padding.{Padding, padding_all}
use Rattle.turkish_matrix.specs.Rules.{Spelt}

-- Each type has a symbol, and no more than a word has room for.
types_fit : every (λ t. leb 1 (length t) && leb (length t) limits.symbols) types ≡ true
unfolding every
types_fit = refl

module _ (x : ℕ) (h : x < length types) where
  type_fits : (1 ≤ length (get_or types x [])) × (length (get_or types x []) ≤ limits.symbols)
  type_fits =
      let t = get_or types x [] in
      let both = (and-eq-true_iff (leb 1 (length t)) (leb (length t) limits.symbols)).0 (every_at _ types [] types_fit x h) in
      (leb-true 1 (length t) both.0, leb-true (length t) limits.symbols both.1)

  module _ {ws : List Word} (e : ws ≡ map (word_for limits) types) where
    word_is : get_or ws x no_word ≡ word_for limits (get_or types x [])
    word_is = rw e (map_at (word_for limits) types x no_word [] h)

    pub word_spelt : Spelt (get_or ws x no_word)
    unfolding padded
    word_spelt = rw word_is (record { some = type_fits.0; fits = type_fits.1; array = length-tabulate (λ k. get_or (get_or types x []) k 0) limits.symbols })

    -- the symbols of the word are the type
    pub word_type : symbols_of (get_or ws x no_word) ≡ get_or types x []
    unfolding padded
    word_type =
        let t = get_or types x [] in
        let a = tabulate (λ k. get_or t k 0) limits.symbols in
        let long : length (take (length t) a) ≡ length t = length-take-le (length t) a (omega (arith, type_fits, length-tabulate (λ k. get_or t k 0) limits.symbols)) in
        ap symbols_of word_is
        ∙ ext_get_or 0 (take (length t) a) t long
        (λ k l. get_or-take (length t) a k 0 (omega (arith, long)) ∙ get_d_tabulate (λ j. get_or t j 0) limits.symbols k 0 (omega (arith, long, type_fits)))

-- the entries of row x
abbrev pub entries_of : ℕ → List ℕ
entries_of x = map (entry_for (get_or types x [])) types

module _ (x y : ℕ) (h : x < length types) (l : y < length types) {ws : List Word} (e : ws ≡ map (word_for limits) types) where
  pub entry_is : {n : ℕ} → n ≡ entry_for (symbols_of (get_or ws x no_word)) (symbols_of (get_or ws y no_word)) → n ≡ get_or (entries_of x) y 0
  entry_is p = p ∙ rw (word_type x h e, word_type y l e) (sym (map_at (entry_for (get_or types x [])) types y 0 [] l))

row_is : (x : ℕ) → x < length types → entries_of x ≡ get_or (matrix types) x []
row_is x h = sym (map_at (λ t. map (entry_for t) types) types x [] [] h)

pub row_filled : (x : ℕ) → x < length types → {y : ℕ} {row : List ℕ} → length types ≤ y → y ≤ length types → Padding 0 (entries_of x) (length types) y row
    → row ≡ get_or (matrix types) x []
unfolding padded
row_filled x h few most p =
    let long = length-map types (entry_for (get_or types x [])) in
    padding_all (omega (arith, long)) most p ∙ tabulate_list (λ k. get_or (entries_of x) k 0) (length types) (entries_of x) 0 long (λ k l. refl) ∙ row_is x h
